use Rattle.std.proofs.Common.{◌≡◌, ◌≢◌, ◌⊎◌, ◌∙◌, ℕ, List, [], Option, Some, Result, Ok, inl, inr, refl, sym, ap, subst, arith}
use Rattle.std.proofs.lemmas.Option.{same_Some}
use Rattle.command_ends.specs.Status.{ending_status}
use Rattle.command_ends.specs.declared.refusal.Refusal.{Refusal}
use Rattle.command_ends.specs.declared.stop.Stop.{Stop}
use Rattle.command_inputs.specs.Reading.{Files}
use Rattle.command_words.specs.Command.{CheckNames, Command, DrawNames, ImportNames, Names, check, draw, import, route, writes_of}
use Rattle.marker_text.specs.Held as held
use Rattle.shelf_io.specs.Told.{Refines}
use Rattle.commands.specs.Accepted.{Accepted, to_write}
use Rattle.commands.specs.Carried.{Carried}
use Rattle.commands.specs.Changes.{Changes, IsTextWritten}
use Rattle.commands.specs.Done.{Done}
use Rattle.commands.specs.Drawn.{IsPictureOf}
use Rattle.commands.specs.Ends.{Ends}
use Rattle.commands.specs.Imported.{IsImportOf}
use Rattle.commands.specs.Outcome.{Holds, HoldsFront}
use Rattle.commands.specs.Verdict.{command_verdict}

-- of a text that was written into a file, or could not be
module _ (text file : List ℕ) (ending : Result Done Stop) (old new : Files) (written : IsTextWritten text file ending old new) where
  listed : (ending_status ending ≡ 0) ⊎ (ending_status ending ≡ 9)
  listed = elim written.ends [ inl is ↦ inl (ap ending_status is) | inr is ↦ inr (ap ending_status is) ]

  ends-so : Ends [] ending (Ok (to_write text))
  ends-so = elim written.ends [
    | inl is ↦ subst (λ (e : Result Done Stop). Ends [] e (Ok (to_write text))) (sym is) tt
    | inr is ↦ subst (λ (e : Result Done Stop). Ends [] e (Ok (to_write text))) (sym is) tt
  ]

  -- what the file holds where that ended well
  pub held-is : (bytes : List ℕ) → ending_status ending ≡ 0 → new.holds file ≡ Some bytes → bytes ≡ text
  held-is bytes zero told = sym (same_Some text bytes (written.holds zero bytes told))

  -- what was done for a command that writes it, which is neither to route nor to check
  pub written-for : (command : Command) → writes_of command ≡ Some file → ((said : Result Accepted Refusal) → command_verdict command old.holds ≡ Some said → said ≡ Ok (to_write text))
      → ((names : Names) → command ≢ route names) → ((names : CheckNames) → command ≢ check names)
      → ((names : DrawNames) (layout bytes : List ℕ) → command ≡ draw names → old.holds names.cif ≡ Some layout → ending_status ending ≡ 0
      → new.holds names.out ≡ Some bytes → IsPictureOf names.part layout bytes)
      → ((names : ImportNames) (netlist cells bytes : List ℕ) → command ≡ import names → old.holds names.netlist ≡ Some netlist → old.holds names.cells ≡ Some cells
      → ending_status ending ≡ 0 → new.holds names.out ≡ Some bytes → IsImportOf names.decimals netlist cells bytes)
      → Carried (Some command) ending [] old new
  written-for command writes says not_route not_check drawn imported = record {
    said = λ said is.
        let so : Ok (to_write text) ≡ said = sym (says said is) in record {
          ends = subst (λ (s : Result Accepted Refusal). Ends [] ending s) so ends-so;
          written = λ name at zero.
              subst (λ (s : Result Accepted Refusal). Holds s [] (new.holds name)) so
              (subst (λ (f : List ℕ). Refines (new.holds f) (Some text)) (same_Some file name (sym writes ∙ at)) (written.holds zero));
          front = λ name at nine.
              subst (λ (s : Result Accepted Refusal). HoldsFront s [] (old.holds name) (new.holds name)) so
              (subst (λ (f : List ℕ). held.HoldsFront text (old.holds f) (new.holds f)) (same_Some file name (sym writes ∙ at)) (written.front nine));
        };
    usage = λ two. absurd (omega (arith, listed, two));
    no_command = λ none. absurd cc;
    changes = subst (λ (f : Option (List ℕ)). Changes f ending [] old new) (sym writes) written.changes;
    unkept = λ other same none. refl;
    laid = λ names same. absurd (not_route names (same_Some command (route names) same));
    marked = λ names f same some. absurd (not_check names (same_Some command (check names) same));
    cause = λ other same eight. absurd (omega (arith, listed, eight));
    headline = λ names stated bytes found same states source zero told. absurd (not_route names (same_Some command (route names) same));
    edges = λ names stated bytes found same ports states source zero told. absurd (not_route names (same_Some command (route names) same));
    judges = λ names stated bytes layout same states design cif. absurd (not_check names (same_Some command (check names) same));
    drawn = λ names layout bytes same. drawn names layout bytes (same_Some command (draw names) same);
    imported = λ names netlist cells bytes same. imported names netlist cells bytes (same_Some command (import names) same);
  }
