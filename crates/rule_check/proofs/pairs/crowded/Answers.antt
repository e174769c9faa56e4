use Rattle.rule_check.proofs.pairs.crowded.Goals as goal
use Rattle.std.proofs.Common.{◌≡◌, leb, length, take, arith}
use Rattle.close_rects.specs.Crowds.{crowds_of}
use Rattle.std_laws.proofs.Slices.{first-all}

pub returns : goal.returns
returns c =
    let first : (c.truncate.new.self.items ≡ take 1000 (crowds_of c.args.members.now)) × (leb c.len-whole.result 1000 ≡ leb (length (crowds_of c.args.members.now)) 1000) =
    first-all 1000 (crowds_of c.args.members.now) c.in_ok-list.list.items c.truncate.new.self.items c.len-whole.result
    c.in_ok-list.ensures c.truncate.ensures.items (omega arith) in
    record { list = first.0; whole = first.1 }
