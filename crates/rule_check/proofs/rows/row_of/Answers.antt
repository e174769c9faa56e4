use Rattle.std.proofs.Common.{◌≡◌, ◌∙◌, None, rules, sym, to_z-of_z}
use Rattle.rule_check.specs.Rows.{row_at}
use Rattle.rule_check.proofs.RowNumbers.{IsPut, put-kept, put-rows, put-told}
use Rattle.rule_check.proofs.rows.row_of.Goals as goal

-- the new row is put in
is_put : (c : goal.In_ok-insert) → IsPut c.args.rows.now c.insert.new.self c.args.base c.len-number.result
is_put c =
    let none : row_at c.args.rows.now c.args.base ≡ None = search rules in
    let old : c.in_ok-insert.field-0 ≡ None = search (rules, none) in
    record { new = none; next = c.len-number.ensures.len; len = search rules; at = λ q. search rules }

pub returns-clause-numbered : goal.returns-clause-numbered
returns-clause-numbered c = put-rows _ _ _ _ (is_put c) c.requires.numbered

pub returns-clause-told : goal.returns-clause-told
returns-clause-told c = put-told _ _ _ _ (is_put c)

pub returns-clause-kept : goal.returns-clause-kept
returns-clause-kept c = put-kept _ _ _ _ (is_put c)

pub returns-in-Some-clause-told : goal.returns-in-Some-clause-told
returns-in-Some-clause-told c =
    let found = simp (to_z-of_z, c.ranges.base) at c.get.ensures.value in
    sym found ∙ sym c.copied.ensures ∙ c.in-Some.is
