use Rattle.std.proofs.Common.{◌∙◌, ap, sym, subst, length, ◌<◌, ◌^◌, List}
use Rattle.yal_reader.specs.declared.file.Module.{Module}
use Rattle.netlist_core.specs.Calls.{module_named}
use Rattle.netlist_core.specs.Read.{AreModules}
use Rattle.design_model.specs.declared.design.Terminal.{Terminal}
use Rattle.netlist_core.proofs.FoundModules.{library-found, library-terminals, few-found}
use Rattle.netlist_core.proofs.library.Library.find.Goals as goal

pub returns-in_default-clause-is : goal.returns-in_default-clause-is
returns-in_default-clause-is c =
    c.in_default.ensures ∙ library-found c.self.inside c.self.invariant _ c.items.ensures.is _ _ c.place_of-place.ensures.is
    ∙ ap (λ (ms : List Module). module_named ms c.args.name.now) c.self.view_is

pub returns-in_default-item_at-clause-is : goal.returns-in_default-item_at-clause-is
returns-in_default-item_at-clause-is c =
    let some = library-terminals c.self.inside c.self.invariant _ c.items.ensures.is _ c.in-Some.module.now (sym (c.in-Some.ensures)) in
    cc (some, c.in_default-item_at.ensures, c.as_slice.ensures.value)

pub returns-clause-is : goal.returns-clause-is
returns-clause-is c =
    c.in-Some.ensures ∙ library-found c.self.inside c.self.invariant _ c.items.ensures.is _ _ c.place_of-place.ensures.is
    ∙ ap (λ (ms : List Module). module_named ms c.args.name.now) c.self.view_is

pub returns-clause-terminals : goal.returns-clause-terminals
returns-clause-terminals c =
    let some = library-terminals c.self.inside c.self.invariant _ c.items.ensures.is _ c.in-Some.module.now (sym (c.in-Some.ensures)) in
    cc (some, c.in-Some-item_at.ensures, c.as_slice.ensures.value, c.items-2.ensures)

pub returns-clause-few : goal.returns-clause-few
returns-clause-few c =
    subst (λ (ts : List Terminal). length ts < 2 ^ 32) (sym (returns-clause-terminals c))
    (few-found c.items.result.now (subst AreModules (sym c.items.ensures.is) c.items.ensures.read) _ c.in-Some.module.now (sym (c.in-Some.ensures)))
