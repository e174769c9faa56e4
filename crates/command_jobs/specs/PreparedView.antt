-- a job that is ready to be written, and its text written
use Rattle.std.specs.Prelude.{◌≡◌, List, is_some, IfSome}
use Rattle.tech_rules.specs.Rules.{ValidRules}
use Rattle.design_model.specs.Good.{Good}
use Rattle.design_model.specs.Room.{HasRoom}
use Rattle.channel_stack.specs.Layouts.{layout_of}
use Rattle.channel_stack.specs.Stack.{laid_of, stack_of}
use Rattle.cif_writer.specs.FeedHeights.{feed_heights}
use Rattle.cif_writer.specs.Labels.{first_pins}
use Rattle.cif_writer.specs.Symbols.{symbol_drawings}
use Rattle.greedy_router.specs.declared.sweep.Routed.{Routed}
use Rattle.command_jobs.specs.Job.{Job}
use Rattle.command_jobs.specs.Tries.{job_of}
use Rattle.command_jobs.specs.Summarized.{summary_of}
use Rattle.command_jobs.specs.Text.{AreRoutedRows, wirings_of}
use Rattle.command_jobs.specs.Written.{StandAtEdges}
use Rattle.command_jobs.specs.declared.prepared.Prepared.TheInside.{Inside}

-- a job, and its routed channels
pub record RoutedJob : Type 0 where
  pub job : Job
  pub kept : List Routed

abbrev pub job_in : Inside → RoutedJob
job_in a = record { job = job_of a.rules a.designs a.wanted; kept = a.kept.items }

-- its rows with feeds and its channels are the job's, and lie where its layout says, which is good, with its ports at the edges; its symbols are drawn, and where labels are wished for it has the first pins of the nets
pub record IsPrepared (a : Inside) : Type 0 where
  pub valid : ValidRules a.rules
  pub high : HasRoom a.rules a.designs.drawn.design
  pub rows : AreRoutedRows (job_in a).job a.fed a.kept.items
  pub laid : a.laid ≡ laid_of (stack_of a.rules a.designs.drawn.design a.fed (wirings_of a.kept.items))
  pub good : Good a.rules a.designs.drawn.design (layout_of a.rules a.designs.drawn.design (stack_of a.rules a.designs.drawn.design a.fed (wirings_of a.kept.items)))
  pub edges : StandAtEdges a.rules a.designs.drawn (layout_of a.rules a.designs.drawn.design (stack_of a.rules a.designs.drawn.design a.fed (wirings_of a.kept.items)))
  pub told : a.summary ≡ summary_of (job_in a).job a.kept.items
  pub symbols : a.symbols.drawings ≡ symbol_drawings a.rules a.designs.drawn.design a.fed
  pub feeds : a.symbols.feed_heights ≡ feed_heights a.fed
  pub labels : is_some a.first_pins ≡ a.wanted.labels
  pub first : IfSome a.first_pins (λ pins. pins ≡ first_pins a.designs.drawn.design)
