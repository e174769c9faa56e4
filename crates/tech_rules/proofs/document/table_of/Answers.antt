use Rattle.std.proofs.Common.{◌≡◌, length, arith}
use Rattle.std.proofs.lemmas.Bool.Decides.{nat_tests}
use Rattle.std.proofs.lemmas.Str.{utf8_valid_len-IsUtf8}
use Rattle.std.specs.Str.Lossy.{utf8_valid_len}
use Rattle.tech_rules.proofs.document.table_of.Goals as goal

pub returns-in-Ok-table_from_str : goal.returns-in-Ok-table_from_str
returns-in-Ok-table_from_str c =
    let whole : utf8_valid_len c.args.bytes.now ≡ length c.args.bytes.now = utf8_valid_len-IsUtf8 _ c.in-Ok.ensures.cases.1 in
    grind (arith, nat_tests, whole, c.in-Ok-table_from_str.ensures.ok, c.in-Ok.ensures.cases.0)
