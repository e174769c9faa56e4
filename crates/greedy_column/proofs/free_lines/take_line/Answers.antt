use Rattle.std.proofs.Common.{◌≡◌, ◌∙◌, ℕ, List, Result, ap, subst, sym, Ok, Err}
use Rattle.std.proofs.lemmas.List.Sorted.{searched}
use Rattle.std.specs.List.{remove}
use Rattle.std.specs.List.Sorted.{IsBinarySearchResult, IsStrictlyIncreasing}
use Rattle.std.specs.Ordering.{nat_cmp}
use Rattle.std_laws.proofs.Increasing.{increasing-at}
use Rattle.greedy_column.specs.Moving.{without}
use Rattle.greedy_column.proofs.AscentLaws.{without_found, without_missing}
use Rattle.greedy_column.proofs.free_lines.take_line.Goals as goal

pub returns-in_default : goal.returns-in_default
returns-in_default c =
    let lines = c.deref.result.now in
    let rising : IsStrictlyIncreasing lines = subst (λ (l : List ℕ). IsStrictlyIncreasing l) (sym c.deref.ensures.value) c.requires in
    let none = searched lines c.args.line (Err c.in_default.field-0) (subst (λ (r : Result ℕ ℕ). IsBinarySearchResult (λ y. nat_cmp y c.args.line) lines r)
    c.in_default.is c.binary_search.ensures.position) (increasing-at lines rising) in
    subst (λ (l : List ℕ). l ≡ without c.args.line l) c.deref.ensures.value (without_missing c.args.line c.in_default.field-0 lines none.1 none.2)

pub returns : goal.returns
returns c =
    let lines = c.deref.result.now in
    let rising : IsStrictlyIncreasing lines = subst (λ (l : List ℕ). IsStrictlyIncreasing l) (sym c.deref.ensures.value) c.requires in
    let found = searched lines c.args.line (Ok c.in-Ok.place) c.in-Ok.ensures.position (increasing-at lines rising) in
    c.remove-taken.ensures.items ∙ ap (λ (l : List ℕ). remove l c.in-Ok.place) (sym c.deref.ensures.value)
    ∙ without_found c.args.line c.in-Ok.place lines rising found.0 found.1 ∙ ap (λ (l : List ℕ). without c.args.line l) c.deref.ensures.value
