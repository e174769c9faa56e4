use Rattle.std.proofs.Common.{None, ◌≡◌, ◌∙◌, ℕ, List, [], Option, Some, Result, Ok, Err, Bool, true, false, cond, inl, inr, is_ok, nat_lt, option_map, refl, sym, ap, subst}
use Rattle.command_ends.proofs.FindsLaws.{found-refusal, of-file, stops, told-goes-on, told-next, told-stops, told-value}
use Rattle.command_ends.specs.Answers.{Finds}
use Rattle.command_ends.specs.Refusing.{◌>>=◌}
use Rattle.command_ends.specs.declared.refusal.Limited.TheVariants as limits
use Rattle.command_ends.specs.declared.refusal.Refusal.{Refusal}
use Rattle.command_ends.specs.declared.refusal.Refusal.TheVariants as refusals
use Rattle.command_ends.specs.declared.stop.Stop.{Stop}
use Rattle.command_ends.specs.declared.stop.Stop.TheVariants.{Refused}
use Rattle.command_inputs.proofs.LayoutLaws.{layout-reads}
use Rattle.command_inputs.proofs.ReadingLaws.{loads-after, read-also, read-refused, read-same}
use Rattle.command_inputs.specs.GivenRules.{rules_given}
use Rattle.command_inputs.specs.LayoutFile.{layout_verdict}
use Rattle.command_inputs.specs.Reading.{Files, OnlyRead}
use Rattle.command_words.specs.Command.{DrawNames, draw}
use Rattle.command_words.specs.Seen.{draw_seen}
use Rattle.geom_core.specs.declared.layout.Layout.{Layout}
use Rattle.layout_picture.specs.Pictures.{picture_text}
use Rattle.layout_picture.specs.declared.picture.TheConstants.{MOST_SHOWN}
use Rattle.layout_picture.specs.declared.view.View.{View}
use Rattle.tech_rules.specs.Rules.{RuleValues}
use Rattle.commands.specs.Accepted.{Accepted, to_write}
use Rattle.commands.specs.Carried.{Carried}
use Rattle.commands.specs.Changes.{IsTextWritten}
use Rattle.commands.specs.Done.{Done}
use Rattle.commands.specs.Drawn.{IsPictureOf, drawn_text, shown_count, view_of}
use Rattle.commands.specs.Verdict.{command_verdict, picture_verdict}
use Rattle.commands.proofs.CarriedLaws.{stopped-early}
use Rattle.commands.proofs.WrittenTexts.{held-is, written-for}
use Rattle.commands.proofs.drawing.draw.Goals as goal

-- the text of a picture that is drawn
drawn-is : (layout : Layout) (view : View) (text : List ℕ) → drawn_text layout view ≡ Ok text → text ≡ picture_text layout view
unfolding drawn_text
drawn-is layout view text is = by (nat_lt MOST_SHOWN (shown_count layout view)) is
  where
    by : (many : Bool) → cond many (Err (refusals.Limit limits.Picture (shown_count layout view))) (Ok (picture_text layout view)) ≡ Ok text → text ≡ picture_text layout view
    by true is = cc
    by false is = cc

-- where the rules are read, if there are some
module _ (names : DrawNames) (rules : Option RuleValues) (holds : List ℕ → Option (List ℕ)) (given : (s : Result (Option RuleValues) Refusal) → rules_given names.rules holds ≡ Some s → s ≡ Ok rules) where
  -- what stops the reading of the layout stops the command
  layout-stops : (stop : Stop) (said : Result Accepted Refusal) → ((bytes : List ℕ) → holds names.cif ≡ Some bytes → Finds {X = Layout} (λ l. l) (Err stop) (layout_verdict None bytes))
      → command_verdict (draw names) holds ≡ Some said → Finds {X = Accepted} (λ a. a) (Err stop) said
  unfolding command_verdict picture_verdict
  layout-stops stop said told is =
      told-goes-on (λ (a : Accepted). a) (Err stop) _ rules _ said given
      (of-file (λ (a : Accepted). a) (Err stop) (picture_verdict names.part rules) _
      (λ bytes at. stops (λ (l : Layout). l) (λ (a : Accepted). a) stop (layout_verdict None bytes) (λ (l : Layout). drawn_text l (view_of names.part rules) >>= (λ text. Ok (to_write text))) (told bytes at))) is

  -- and where that is read too, it is to draw it
  draw-said : (layout : Layout) (said : Result Accepted Refusal) → ((bytes : List ℕ) → holds names.cif ≡ Some bytes → layout_verdict None bytes ≡ Ok layout)
      → command_verdict (draw names) holds ≡ Some said → said ≡ (drawn_text layout (view_of names.part rules) >>= (λ text. Ok (to_write text)))
  unfolding command_verdict picture_verdict
  draw-said layout said told is =
      told-value (picture_verdict names.part rules) (holds names.cif) _
      (λ bytes at. ap (λ (l : Result Layout Refusal). l >>= (λ (found : Layout). drawn_text found (view_of names.part rules) >>= (λ text. Ok (to_write text)))) (told bytes at)) said
      (told-next _ rules (λ (r : Option RuleValues). option_map (picture_verdict names.part r) (holds names.cif)) said given is)

-- what was done where the picture was written, or could not be
drawn-for : (names : DrawNames) (rules : Option RuleValues) (layout : Layout) (text : List ℕ) (e : Result Done Stop) {First : (List ℕ → ℕ) → (List ℕ → ℕ) → Type 0} (old mid new : Files)
    → ((s : Result (Option RuleValues) Refusal) → rules_given names.rules old.holds ≡ Some s → s ≡ Ok rules)
    → ((bytes : List ℕ) → old.holds names.cif ≡ Some bytes → layout_verdict None bytes ≡ Ok layout) → OnlyRead 0 First old mid
    → drawn_text layout (view_of names.part rules) ≡ Ok text → IsTextWritten text names.out e mid new → Carried (Some (draw names)) e [] old new
drawn-for names rules layout text e old mid new given told read is after =
    let written = subst (λ (m : Files). IsTextWritten text names.out e m new) (read-same old mid read) after in
    written-for text names.out e old new written (draw names) refl
    (λ said says. draw-said names rules old.holds given layout said told says ∙ ap (λ (t : Result (List ℕ) Refusal). t >>= (λ (found : List ℕ). Ok (to_write found))) is) (λ other same. cc) (λ other same. cc)
    (λ other bytes found same at zero holds.
    let here : names ≡ other = cc in
    subst (λ (m : DrawNames). IsPictureOf m.part bytes found) here (record {
      layout = layout;
      reads = layout-reads bytes layout (told bytes (ap (λ (m : DrawNames). old.holds m.cif) here ∙ at));
      roles = (view_of names.part rules).roles;
      is = held-is text names.out e old new written found zero (ap (λ (m : DrawNames). new.holds m.out) here ∙ holds) ∙ drawn-is layout (view_of names.part rules) text is;
    })) (λ other netlist cells found same first second zero holds. absurd cc)

pub returns-in_err-rules : goal.returns-in_err-rules
unfolding command_verdict
returns-in_err-rules g c =
    stopped-early (λ (a : Accepted). a) _ c.in_err-rules.field-0.0 c.from_residual.result [] _ _ c.from_residual.ensures.1
    (λ said says. told-stops (λ (r : Option RuleValues). r) (λ (a : Accepted). a) c.in_err-rules.field-0.0 _ _ said c.in_err-rules.ensures.told says)
    (read-also (λ eight fails. inl fails) c.in_err-rules.ensures.read) refl

pub returns-in_err-layout : goal.returns-in_err-layout
returns-in_err-layout g c =
    let names : DrawNames = draw_seen c.args.names.now in
    let stop = c.in_err-layout.field-0.0 in
    let loads = loads-after c.in_ok-rules.ensures.read c.in_err-layout.ensures.loads in
    stopped-early (λ (a : Accepted). a) (draw names) stop c.from_residual-in_err-layout.result [] _ _ c.from_residual-in_err-layout.ensures.1
    (λ said says. layout-stops names c.in_ok-rules.rules (g.S.Shelf.holds c.args.shelf.now) c.in_ok-rules.ensures.told stop said loads.told says)
    (read-also (λ eight rose. inr (rose, λ said is. ap is_ok (c.in_ok-rules.ensures.told said is))) loads.read) refl

pub returns-in-Ok : goal.returns-in-Ok
returns-in-Ok g c =
    let names : DrawNames = draw_seen c.args.names.now in
    let loads = loads-after c.in_ok-rules.ensures.read c.in_ok-layout.ensures.loads in
    drawn-for names c.in_ok-rules.rules c.in_ok-layout.layout _ _ _ _ _ c.in_ok-rules.ensures.told loads.told loads.read (rw c.view_of-view.ensures at c.in-Ok.ensures.made) c.draw_in.ensures

pub returns : goal.returns
returns g c =
    let names : DrawNames = draw_seen c.args.names.now in
    let loads = loads-after c.in_ok-rules.ensures.read c.in_ok-layout.ensures.loads in
    let says = rw c.view_of-view.ensures at c.in-Err.ensures in
    stopped-early (λ (a : Accepted). a) (draw names) (Refused c.in-Err.refusal) (Err (Refused c.in-Err.refusal)) [] _ _ refl
    (λ said is.
    subst (Finds {X = Accepted} (λ a. a) (Err (Refused c.in-Err.refusal)))
    (sym (draw-said names c.in_ok-rules.rules (g.S.Shelf.holds c.args.shelf.now) c.in_ok-rules.ensures.told c.in_ok-layout.layout said loads.told is))
    (stops (λ (t : List ℕ). t) (λ (a : Accepted). a) (Refused c.in-Err.refusal) _ (λ (t : List ℕ). Ok (to_write t)) (found-refusal (λ (t : List ℕ). t) c.in-Err.refusal _ says.made)))
    (read-refused c.in-Err.refusal says.command loads.read) refl
