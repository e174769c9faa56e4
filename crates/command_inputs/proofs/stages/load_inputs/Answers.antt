use Rattle.std.proofs.Common.{◌≡◌, Err, Ok, ap, inr, is_ok, arith}
use Rattle.tech_rules.specs.Rules.{RuleValues}
use Rattle.command_ends.proofs.FindsLaws.{handed-on, of-file, stops, told-goes-on, told-stops}
use Rattle.command_words.specs.Seen.{source_seen}
use Rattle.command_inputs.specs.Origin.{AreRead}
use Rattle.command_inputs.specs.Stated.{inputs_told, inputs_under, rules_verdict}
use Rattle.command_inputs.specs.declared.outcome.ReadDesign.{ReadDesign}
use Rattle.command_inputs.specs.declared.stages.Inputs.{Inputs}
use Rattle.command_inputs.proofs.OriginLaws.{read-told}
use Rattle.command_inputs.proofs.ReadingLaws.{loads-after, read-also, read-handed}
use Rattle.command_inputs.proofs.stages.load_inputs.Goals as goal

pub returns-in_err-rules-clause-told : goal.returns-in_err-rules-clause-told
unfolding inputs_told
returns-in_err-rules-clause-told g c = λ said is.
    handed-on _ c.from_residual.result _ _ c.from_residual.ensures.1
    (told-stops (λ (r : RuleValues). r) (λ (i : Inputs). i) c.in_err-rules.field-0.0 _ _ said
    (of-file (λ (r : RuleValues). r) (Err c.in_err-rules.field-0.0) rules_verdict _ c.in_err-rules.ensures.told) is)

pub returns-in_err-read-clause-told : goal.returns-in_err-read-clause-told
unfolding inputs_told inputs_under
returns-in_err-read-clause-told g c = λ said is.
    let stop = c.in_err-read.field-0.0 in
    handed-on _ c.from_residual-in_err-read.result _ _ c.from_residual-in_err-read.ensures.1
    (told-goes-on (λ (i : Inputs). i) (Err stop) _ c.in_ok-rules.rules _ said
    (of-file (λ (r : RuleValues). r) (Ok c.in_ok-rules.rules) rules_verdict _ c.in_ok-rules.ensures.told)
    (of-file (λ (i : Inputs). i) (Err stop) (inputs_under c.in_ok-rules.rules c.args.ports) _
    (λ bytes told. stops (λ (d : ReadDesign). d) (λ (i : Inputs). i) stop _ _ ((loads-after c.in_ok-rules.ensures.read c.in_err-read.ensures.loads).told bytes told))) is)

pub returns-in_err-read-clause-read : goal.returns-in_err-read-clause-read
returns-in_err-read-clause-read g c =
    read-handed c.from_residual-in_err-read.result c.in_err-read.field-0.0 c.from_residual-in_err-read.ensures.1
    (read-also (λ eight fails. inr (fails, λ bytes told. ap is_ok (c.in_ok-rules.ensures.told bytes told)))
    (loads-after c.in_ok-rules.ensures.read c.in_err-read.ensures.loads).read)

pub returns : goal.returns
returns g c =
    let made : Inputs = record { rules = c.in_ok-rules.rules; file = c.in_ok-read.read.file; designs = c.in_ok-read.read.designs } in
    let loads = loads-after c.in_ok-rules.ensures.read c.in_ok-read.ensures.loads in
    let are : AreRead c.args.rules.now (source_seen c.args.source.now) c.args.ports (g.S.Shelf.holds c.args.shelf.now) made =
    record { stated = c.in_ok-rules.ensures.told; designed = loads.told; is = c.in_ok-read.ensures.are } in
    record {
      told = λ said is. read-told _ _ _ _ made said are is;
      are = are;
      read = read-also (λ (eight : 0 ≡ 8) fails. absurd (omega (arith, eight))) loads.read;
    }
