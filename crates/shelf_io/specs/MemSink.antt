-- the sink in memory
use Rattle.std.specs.Prelude.{ℕ, List}
use Rattle.shelf_io.specs.declared.plan.Plan.{Plan}
use Rattle.shelf_io.specs.declared.mem_sink.MemSink.{MemSink}

-- all that was put to the sink
abbrev pub bytes_put : MemSink → List ℕ
bytes_put sink = sink.text.items

-- how many puts have failed
abbrev pub failed_puts : MemSink → ℕ
failed_puts sink = sink.failures

-- the calls that are to fail, and how much one put takes
abbrev pub plan_of : MemSink → Plan
plan_of sink = sink.plan
