use Rattle.std.proofs.Common.{◌≡◌, ◌∙◌, ◌<◌, ◌^◌, ℕ, List, length, ap, sym, subst}
use Rattle.std.proofs.lemmas.List.{length-map}
use Rattle.yal_reader.specs.declared.file.Module.{Module}
use Rattle.list_facts.specs.Names.{mentions}
use Rattle.list_facts.proofs.Different.{mentions-different}
use Rattle.netlist_core.specs.Checked.{CheckedCalls}
use Rattle.netlist_core.specs.OnGrid.{used_names}
use Rattle.netlist_core.proofs.checked.used_names.Goals as goal

few-names : (used : List (ℕ × Module)) (names : List (List ℕ)) → names ≡ used_names used → length used < 2 ^ 32 → length names < 2 ^ 32
few-names used names is few = subst (λ l. length l < 2 ^ 32) (sym is) (subst (λ n. n < 2 ^ 32) (sym (length-map used (λ (m : ℕ × Module). m.1.name))) few)

pub invariant_of-result : goal.invariant_of-result
invariant_of-result c =
    few-names c.checked.inside.used.items _ (c.in_ok-names.ensures ∙ ap (λ (u : List (ℕ × Module)). mentions (used_names u)) c.as_slice.ensures.value
    ∙ mentions-different _ c.checked.invariant.different_modules) c.checked.invariant.few_modules

pub returns : goal.returns
returns c =
    c.in_ok-names.ensures ∙ ap (λ (u : List (ℕ × Module)). mentions (used_names u)) c.as_slice.ensures.value
    ∙ mentions-different _ c.checked.invariant.different_modules ∙ ap (λ (k : CheckedCalls). used_names k.used) c.checked.view_is
