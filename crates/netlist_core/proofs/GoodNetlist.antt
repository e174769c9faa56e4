use Rattle.std.proofs.Common.{◌≡◌, ◌<◌, ◌≤◌, ℕ, ◌^◌, ◌==◌, List, [], ◌∷◌, length, map, true, Result, Ok, refl, ap, sym, ◌∙◌, subst, arith}
use Rattle.std.proofs.lemmas.List.Elements.{All-from_recursion}
use Rattle.std.proofs.lemmas.List.{length-map}
use Rattle.std.specs.List.{AllByRecursion, AllZip, IsDistinct, list_any}
use Rattle.std.specs.Str.{bytes_eq}
use Rattle.tech_rules.specs.Rules.{RuleValues, ValidRules}
use Rattle.geom_core.specs.Names.{IsName}
use Rattle.yal_reader.specs.Kept.{IsKeptCall, IsKeptModule, call_names, is_standard}
use Rattle.yal_reader.specs.declared.file.Call.{Call}
use Rattle.yal_reader.specs.declared.file.Module.{Module}
use Rattle.list_facts.specs.Names.{place_among}
use Rattle.list_facts.proofs.Different.{distinct-mentions}
use Rattle.list_facts.proofs.Mentioned.{place-below}
use Rattle.netlist_core.specs.Answers.{◌>>=◌}
use Rattle.netlist_core.specs.Cells.{kind_of, terminals_of}
use Rattle.netlist_core.specs.Checked.{CheckedCalls, IsChecked, pin_place}
use Rattle.design_model.specs.Netlist.{IsKind, IsNetlist, Netlist}
use Rattle.netlist_core.specs.OnGrid.{design_of, greatest_height, inst_in, kinds_for, used_design, used_names}
use Rattle.netlist_core.specs.Signals.{PinWord, nets_of, pin_in, words_of}
use Rattle.design_model.specs.declared.design.CellKind.{CellKind}
use Rattle.design_model.specs.declared.design.Inst.{Inst}
use Rattle.design_model.specs.declared.design.Pin.{Pin}
use Rattle.netlist_core.specs.declared.fault.DesignFault.{DesignFault}
use Rattle.netlist_core.proofs.EachLaws.{each-zip}
use Rattle.netlist_core.proofs.KindLaws.{kind-good, kind-terminals}
use Rattle.netlist_core.proofs.NetLaws.{nets-range, nets-used}
use Rattle.netlist_core.proofs.PinPlaces.{pins-used, zip-terminals}
use Rattle.std_laws.proofs.Distinct.{distinct-none}
use Rattle.std_laws.proofs.Every.{All-from_members, every-map, every-weaker, all-zip-length, all-zip-weaker}
use Rattle.std_laws.proofs.Greatest.{greatest-bound, greatest-few}

-- what the kind of a used module has
record Suits (m : ℕ × Module) (k : CellKind) : Type 0 where
  good : IsKeptModule m.1 → is_standard m.1.kind ≡ true → IsKind k
  terminals : k.terminals ≡ terminals_of m.1.lines

suits : (rules : RuleValues) → ValidRules rules → (used : List (ℕ × Module)) (kinds : List CellKind) → kinds_for rules used ≡ Ok kinds
    → AllZip Suits used kinds
unfolding kinds_for
suits rules valid used kinds is =
    each-zip (kind_of rules) Suits (λ m k at. record {
      good = λ kept standard. kind-good rules m.0 m.1 k valid kept standard at;
      terminals = kind-terminals rules m.0 m.1 k at;
    }) used kinds is

good-kinds : (used : List (ℕ × Module)) (kinds : List CellKind) → AllZip Suits used kinds
    → AllByRecursion (λ (m : ℕ × Module). IsKeptModule m.1) used → AllByRecursion (λ (m : ℕ × Module). is_standard m.1.kind ≡ true) used → AllByRecursion IsKind kinds
good-kinds [] [] h kept standard = tt
good-kinds [] (k ∷ ks) h kept standard = absurd h
good-kinds (m ∷ ms) [] h kept standard = tt
good-kinds (m ∷ ms) (k ∷ ks) h kept standard = (h.0.good kept.0 standard.0, good-kinds ms ks h.1 kept.1 standard.1)

names-of : (names : List (List ℕ)) (calls : List Call) → map (λ (i : Inst). i.name) (map (inst_in names) calls) ≡ call_names calls
names-of names [] = refl
names-of names (c ∷ cs) = ap (λ (l : List (List ℕ)). c.name ∷ l) (names-of names cs)

places-of-pins : (nets : List (List ℕ)) (signals : List PinWord) → map (λ (p : Pin). (p.instance, p.terminal)) (map (pin_in nets) signals) ≡ map pin_place signals
places-of-pins nets [] = refl
places-of-pins nets (s ∷ ss) = ap (λ (l : List (ℕ × ℕ)). pin_place s ∷ l) (places-of-pins nets ss)

different-nets : (signals : List PinWord) → IsDistinct bytes_eq (nets_of signals)
unfolding nets_of
different-nets signals = distinct-mentions [] (words_of signals) distinct-none

-- a design of checked calls and of their modules' kinds is a good one
pub good-netlist : (rules : RuleValues) → ValidRules rules → (used : List (ℕ × Module)) (signals : List PinWord) (calls : List Call) (kinds : List CellKind)
    → IsChecked used signals calls → kinds_for rules used ≡ Ok kinds → IsNetlist (design_of used signals calls kinds)
good-netlist rules valid used signals calls kinds checked is =
    let suit = suits rules valid used kinds is in
    let count : length kinds ≡ length used = all-zip-length Suits used kinds suit in
    let good = good-kinds used kinds suit checked.kept checked.standard in
    record {
      few_kinds = subst (λ n. n < 2 ^ 32) (sym count) checked.few_modules;
      called = subst (λ k. (n : ℕ) → n < k → list_any (λ (i : Inst). i.kind == n) (map (inst_in (used_names used)) calls) ≡ true) (sym count) checked.uses;
      few_instances = subst (λ n. n ≤ 20000) (sym (length-map calls (inst_in (used_names used)))) checked.read.few;
      few_pins = subst (λ n. n ≤ 200000) (sym (length-map signals (pin_in (nets_of signals)))) checked.few_signals;
      low = greatest-few 200000000 0 (map (λ (k : CellKind). k.height) kinds) (omega arith)
          (every-map (λ (n : ℕ). n ≤ 200000000) (λ (k : CellKind). k.height) kinds (every-weaker IsKind (λ (k : CellKind). k.height ≤ 200000000) (λ k good. good.low) kinds good));
      highest = All-from_members (λ (k : CellKind). k.height ≤ greatest_height kinds) kinds (greatest-bound (λ (k : CellKind). k.height) 0 kinds);
      kinds = All-from_recursion IsKind kinds good;
      instances = All-from_recursion (λ (i : Inst). i.kind < length kinds) (map (inst_in (used_names used)) calls)
          (every-map (λ (i : Inst). i.kind < length kinds) (inst_in (used_names used)) calls
          (every-weaker (λ (c : Call). list_any (bytes_eq c.«module») (used_names used) ≡ true) (λ (c : Call). place_among (used_names used) c.«module» < length kinds)
          (λ c among. subst (λ n. place_among (used_names used) c.«module» < n) (length-map used (λ (m : ℕ × Module). m.1.name) ∙ sym count) (place-below (used_names used) c.«module» among))
          calls checked.called));
      instance_names = All-from_recursion (λ (i : Inst). IsName i.name) (map (inst_in (used_names used)) calls)
          (every-map (λ (i : Inst). IsName i.name) (inst_in (used_names used)) calls (every-weaker IsKeptCall (λ (c : Call). IsName c.name) (λ c kept. kept.name) calls checked.read.kept));
      different_instances = subst (λ names. IsDistinct bytes_eq names) (sym (names-of (used_names used) calls)) checked.read.different;
      different_nets = different-nets signals;
      pins = places-of-pins (nets_of signals) signals ∙ checked.pins
          ∙ sym (pins-used used kinds (zip-terminals used kinds (all-zip-weaker Suits _ (λ m k suit. suit.terminals) used kinds suit)) 0 calls);
      nets = All-from_recursion (λ (p : Pin). (0 < p.net) × (p.net ≤ length (nets_of signals))) (map (pin_in (nets_of signals)) signals) (nets-range signals);
      used = nets-used signals;
    }

-- a design is the one of these parts where each field is
pub same-design : (used : List (ℕ × Module)) (signals : List PinWord) (calls : List Call) (kinds : List CellKind) (d : Netlist)
    → d.kinds ≡ kinds → d.height ≡ greatest_height kinds → d.instances ≡ map (inst_in (used_names used)) calls
    → d.pins ≡ map (pin_in (nets_of signals)) signals → d.nets ≡ nets_of signals → d ≡ design_of used signals calls kinds
same-design used signals calls kinds d is_kinds is_height is_instances is_pins is_nets =
    ap (λ (x : List CellKind). record d { kinds = x }) is_kinds
    ∙ ap (λ (x : ℕ). record d { kinds = kinds; height = x }) is_height
    ∙ ap (λ (x : List Inst). record d { kinds = kinds; height = greatest_height kinds; instances = x }) is_instances
    ∙ ap (λ (x : List Pin). record d { kinds = kinds; height = greatest_height kinds; instances = map (inst_in (used_names used)) calls; pins = x }) is_pins
    ∙ ap (λ (x : List (List ℕ)). record (design_of used signals calls kinds) { nets = x }) is_nets

-- and it is what is said
pub used-said : (rules : RuleValues) (used : List (ℕ × Module)) (signals : List PinWord) (calls : List Call) (kinds : List CellKind) (d : Netlist)
    → kinds_for rules used ≡ Ok kinds → d ≡ design_of used signals calls kinds → used_design rules used signals calls ≡ Ok d
unfolding used_design
used-said rules used signals calls kinds d good is =
    ap (λ (all : Result (List CellKind) DesignFault). all >>= (λ kinds. Ok (design_of used signals calls kinds))) good ∙ ap (λ (n : Netlist). Ok n) (sym is)

-- what a design made of checked calls has
pub record IsMade (rules : RuleValues) (k : CheckedCalls) (d : Netlist) : Type 0 where
  pub netlist : IsNetlist d
  pub said : used_design rules k.used k.signals k.calls ≡ Ok d

pub made : (rules : RuleValues) → ValidRules rules → (v k : CheckedCalls) → v ≡ k → IsChecked v.used v.signals v.calls → (kinds : List CellKind) → kinds_for rules v.used ≡ Ok kinds → (d : Netlist)
    → d.kinds ≡ kinds → d.height ≡ greatest_height kinds → (names : List (List ℕ)) → names ≡ used_names k.used → d.instances ≡ map (inst_in names) v.calls
    → d.pins ≡ map (pin_in (nets_of k.signals)) k.signals → d.nets ≡ nets_of k.signals → IsMade rules k d
made rules valid v k same checked kinds good d is_kinds is_height names is_names is_instances is_pins is_nets =
    subst (λ (v : CheckedCalls). IsChecked v.used v.signals v.calls → kinds_for rules v.used ≡ Ok kinds → d.height ≡ greatest_height kinds → d.instances ≡ map (inst_in names) v.calls → IsMade rules k d)
    (sym same) by checked good is_height is_instances
  where
    by : IsChecked k.used k.signals k.calls → kinds_for rules k.used ≡ Ok kinds → d.height ≡ greatest_height kinds → d.instances ≡ map (inst_in names) k.calls → IsMade rules k d
    by checked good is_height is_instances =
        let is = same-design k.used k.signals k.calls kinds d is_kinds is_height (is_instances ∙ ap (λ (names : List (List ℕ)). map (inst_in names) k.calls) is_names) is_pins is_nets in
        record {
          netlist = subst (λ (d : Netlist). IsNetlist d) (sym is) (good-netlist rules valid k.used k.signals k.calls kinds checked good);
          said = used-said rules k.used k.signals k.calls kinds d good is;
        }
