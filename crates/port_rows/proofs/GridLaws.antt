use Rattle.std.proofs.Common.{◌≡◌, ℕ, ◌+◌, ◌-◌, List, [], ◌∷◌, length, map, true, Option, Some, None, Result, Ok, Err, refl, ap, sym, ◌∙◌, subst, arith}
use Rattle.std.proofs.lemmas.List.{length-map}
use Rattle.std.specs.List.{filter, list_any, slice_get}
use Rattle.std.specs.Str.{bytes_eq}
use Rattle.tech_rules.specs.Rules.{RuleValues}
use Rattle.yal_reader.specs.declared.file.Call.{Call}
use Rattle.yal_reader.specs.declared.file.Module.{Module}
use Rattle.yal_reader.specs.declared.file.YalFile.{YalFile}
use Rattle.list_facts.specs.Names.{place_among}
use Rattle.list_facts.proofs.Mentioned.{get-place}
use Rattle.design_model.specs.Netlist.{Netlist}
use Rattle.design_model.specs.declared.design.CellKind.{CellKind}
use Rattle.design_model.specs.declared.design.Pin.{Pin}
use Rattle.netlist_core.specs.Answers.{◌>>=◌, unless}
use Rattle.netlist_core.specs.Calls.{calls_fault, is_parent_module, only_parent, over}
use Rattle.netlist_core.specs.OnGrid.{calls_design, design_of, greatest_height, inst_in, kinds_for, on_grid, used_design, used_modules, used_names}
use Rattle.netlist_core.specs.SignalWords.{first_calls, parent_calls, word_of}
use Rattle.netlist_core.specs.Signals.{PinWord, all_signals, nets_of, pin_in}
use Rattle.netlist_core.specs.declared.fault.Count.TheVariants.{Instances, Pins}
use Rattle.netlist_core.specs.declared.fault.DesignFault.{DesignFault}
use Rattle.netlist_core.proofs.NetLaws.{SaysWord, words-in, words-said}
use Rattle.port_rows.specs.PortWords.{BearWords}
use Rattle.std_laws.proofs.Every.{every-get}
use Rattle.std_laws.proofs.Places.{map-get}

-- what the design of these calls has: an instance for each, nets that bear the words of their pins, and the height of its highest kind
pub record IsCalled (calls : List Call) (d : Netlist) : Type 0 where
  pub instances : length d.instances ≡ length calls
  pub words : BearWords (word_of calls) d
  pub height : d.height ≡ greatest_height d.kinds

no-answer : {A : Type 0} (fault : DesignFault) (a : A) → ◌≡◌ {A = Result A DesignFault} (Err fault) (Ok a) → ⊥
no-answer fault a e = cc

unless-ok : {A : Type 0} (o : Option DesignFault) (r : Result A DesignFault) (a : A) → unless o r ≡ Ok a → r ≡ Ok a
unless-ok None r a e = e
unless-ok (Some fault) r a e = absurd (no-answer fault a e)

-- each pin's net is that of its word
words-bear : (modules : List Module) (calls : List Call) (n : ℕ) (p : Pin) → slice_get (map (pin_in (nets_of (all_signals modules calls))) (all_signals modules calls)) n ≡ Some p
    → slice_get (nets_of (all_signals modules calls)) (p.net - 1) ≡ word_of calls p
words-bear modules calls n p at =
    let signals = all_signals modules calls in
    let from = map-get (pin_in (nets_of signals)) signals n p at in
    let says = every-get (SaysWord calls) signals n from.0 (words-said modules calls) from.1 in
    let there = every-get (λ (s : PinWord). list_any (bytes_eq s.word) (nets_of signals) ≡ true) signals n from.0 (words-in signals) from.1 in
    subst (λ (p : Pin). slice_get (nets_of signals) (p.net - 1) ≡ word_of calls p) from.2
    (ap (slice_get (nets_of signals)) (before (place_among (nets_of signals) from.0.word)) ∙ get-place (nets_of signals) from.0.word there ∙ sym says)
  where
    before : (k : ℕ) → k + 1 - 1 ≡ k
    before k = omega arith

used-called : (rules : RuleValues) (used : List (ℕ × Module)) (modules : List Module) (calls : List Call) (d : Netlist)
    → used_design rules used (all_signals modules calls) calls ≡ Ok d → IsCalled calls d
unfolding used_design
used-called rules used modules calls d is = by (kinds_for rules used) is
  where
    by : (all : Result (List CellKind) DesignFault) → (all >>= (λ kinds. Ok (design_of used (all_signals modules calls) calls kinds))) ≡ Ok d → IsCalled calls d
    by (Err fault) e = absurd (no-answer fault d e)
    by (Ok kinds) e = subst (IsCalled calls) (same e) (record {
      instances = length-map calls (inst_in (used_names used));
      words = words-bear modules calls;
      height = refl;
    })
      where
        same : ◌≡◌ {A = Result Netlist DesignFault} (Ok (design_of used (all_signals modules calls) calls kinds)) (Ok d) → design_of used (all_signals modules calls) calls kinds ≡ d
        same e = cc

calls-called : (rules : RuleValues) (modules : List Module) (calls : List Call) (d : Netlist) → calls_design rules modules calls ≡ Ok d → IsCalled calls d
unfolding calls_design
calls-called rules modules calls d is =
    used-called rules (used_modules modules calls) modules calls d
    (unless-ok (over Pins 200000 (length (all_signals modules calls))) _ d
    (unless-ok (calls_fault modules calls) _ d (unless-ok (over Instances 20000 (length calls)) _ d is)))

parent-first : (modules : List Module) (parent : Module) → only_parent modules ≡ Ok parent → parent.calls ≡ first_calls modules
parent-first [] parent e = cc
parent-first (m ∷ []) parent e = ap (λ (m : Module). m.calls) (sym (same e))
  where
    same : ◌≡◌ {A = Result Module DesignFault} (Ok m) (Ok parent) → m ≡ parent
    same e = cc
parent-first (m ∷ other ∷ ms) parent e = cc

-- a design on the grid is that of its PARENT's calls
pub grid-called : (rules : RuleValues) (file : YalFile) (d : Netlist) → on_grid rules file ≡ Ok d → IsCalled (parent_calls file) d
unfolding on_grid
grid-called rules file d is = by (only_parent (filter is_parent_module file.modules)) refl is
  where
    by : (all : Result Module DesignFault) → only_parent (filter is_parent_module file.modules) ≡ all → (all >>= (λ parent. calls_design rules file.modules parent.calls)) ≡ Ok d
        → IsCalled (parent_calls file) d
    by (Err fault) at e = absurd (no-answer fault d e)
    by (Ok parent) at e = subst (λ (calls : List Call). IsCalled calls d) (parent-first (filter is_parent_module file.modules) parent at) (calls-called rules file.modules parent.calls d e)
