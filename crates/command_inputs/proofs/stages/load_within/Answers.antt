use Rattle.std.proofs.Common.{rules, ◌≡◌, Ok, subst}
use Rattle.command_ends.specs.Limits.{within_limit}
use Rattle.command_inputs.proofs.LimitLaws.{beyond, within}
use Rattle.command_inputs.proofs.stages.load_within.Goals as goal

pub returns-in-Ok-clause-loads : goal.returns-in-Ok-clause-loads
returns-in-Ok-clause-loads g c =
    let items = c.in-Ok.bytes.items in
    record {
      told = λ bytes told.
          subst (λ l. within_limit c.args.what c.args.most l ≡ Ok items) (c.in-Ok.ensures.whole bytes told)
          (within c.args.what c.args.most items c.in-Ok.ensures.short);
      read = search rules;
    }

pub returns-in-Err-TooLong-clause-loads : goal.returns-in-Err-TooLong-clause-loads
returns-in-Err-TooLong-clause-loads g c = record {
  told = λ bytes told. beyond c.args.what c.args.most bytes (c.in-Err-TooLong.ensures.long (search rules) bytes told);
  read = search rules;
}
