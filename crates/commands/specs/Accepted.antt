-- what a command comes to, and the verdict on words and files
use Rattle.std.specs.Prelude.{ℕ, List, Option}
use Rattle.geom_core.specs.declared.layout.Layout.{Layout}
use Rattle.command_inputs.specs.declared.stages.Inputs.{Inputs}
use Rattle.command_words.specs.declared.topic.Topic.{Topic}
use Rattle.command_jobs.specs.Job.{Job}

-- what a command comes to where nothing is refused: a job to be done, a layout to be judged for a design and rules, with a file to write markers of what is found to, if there
-- is to be one, a text to be written, or a text of help to be printed
pub data Accepted : Type 0 where
  to_lay_out : Job → Accepted
  to_judge : Inputs → Layout → Option (List ℕ) → Accepted
  to_write : List ℕ → Accepted
  to_help : Topic → Accepted
