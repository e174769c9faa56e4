use Rattle.std.proofs.Common.{◌≡◌, ◌∙◌, ◌++◌, ℕ, List, [], false, Option, Some, option_map, Result, Ok, Err, inl, inr, is_ok, refl, rules, sym, ap, subst}
use Rattle.blif_reader.specs.declared.file.BlifFile.{BlifFile}
use Rattle.command_ends.proofs.FindsLaws.{found-refusal, of-file, stops, told-goes-on, told-next, told-stops, told-value}
use Rattle.command_ends.specs.Answers.{Finds}
use Rattle.command_ends.specs.Refusing.{◌>>=◌}
use Rattle.command_ends.specs.declared.refusal.Refusal.{Refusal}
use Rattle.command_ends.specs.declared.stop.Stop.{Stop}
use Rattle.command_ends.specs.declared.stop.Stop.TheVariants.{Refused}
use Rattle.command_inputs.proofs.NetlistLaws.{netlist-reads}
use Rattle.command_inputs.proofs.ReadingLaws.{loads-after, read-also, read-refused, read-same}
use Rattle.command_inputs.specs.NetlistFiles.{cells_verdict, netlist_verdict}
use Rattle.command_inputs.specs.Reading.{Files, OnlyRead}
use Rattle.command_inputs.specs.declared.netlist_files.Cells.{Cells}
use Rattle.command_words.specs.Command.{ImportNames, import}
use Rattle.command_words.specs.Seen.{import_seen}
use Rattle.netlist_import.specs.Carries.{Carries}
use Rattle.netlist_import.specs.Parent.{parent_of}
use Rattle.yal_reader.specs.Kept.{module_names}
use Rattle.yal_reader.specs.Lists.{is_among}
use Rattle.yal_reader.specs.YalReads.{yal_reads}
use Rattle.yal_reader.specs.declared.file.Module.{Module}
use Rattle.yal_reader.specs.declared.file.YalFile.{YalFile}
use Rattle.yal_reader.specs.declared.notation.Numbers.TheVariants.{Decimal}
use Rattle.yal_writer.specs.ParentText.{parent_text}
use Rattle.yal_writer.specs.ReadsBack.{ReadsBack}
use Rattle.yal_writer.specs.Writable.{IsWritable}
use Rattle.commands.specs.Accepted.{Accepted, to_write}
use Rattle.commands.specs.Carried.{Carried}
use Rattle.commands.specs.Changes.{IsTextWritten}
use Rattle.commands.specs.Done.{Done}
use Rattle.commands.specs.Imported.{IsImportOf, import_said}
use Rattle.commands.specs.Verdict.{command_verdict, import_verdict}
use Rattle.commands.proofs.CarriedLaws.{stopped-early}
use Rattle.commands.proofs.WrittenTexts.{held-is, written-for}
use Rattle.commands.proofs.importing.import.Goals as goal

-- the PARENT of a netlist behind the text of its cells, as what is to be written
abbrev to-import : BlifFile → YalFile → List ℕ → Result Accepted Refusal
to-import netlist cells text = import_said (parent_of netlist cells) >>= (λ (parent : Module). Ok (to_write (text ++ parent_text parent)))

-- where the netlist is read
module _ (names : ImportNames) (netlist : BlifFile) (holds : List ℕ → Option (List ℕ)) (found : (bytes : List ℕ) → holds names.netlist ≡ Some bytes → netlist_verdict bytes ≡ Ok netlist) where
  netlist-said : (s : Result BlifFile Refusal) → option_map netlist_verdict (holds names.netlist) ≡ Some s → s ≡ Ok netlist
  netlist-said = told-value netlist_verdict (holds names.netlist) (Ok netlist) found

  -- what stops the reading of the cells stops the command
  cells-stop : (stop : Stop) (said : Result Accepted Refusal) → ((bytes : List ℕ) → holds names.cells ≡ Some bytes → Finds {X = Cells} (λ c. c.file) (Err stop) (cells_verdict names.decimals bytes))
      → command_verdict (import names) holds ≡ Some said → Finds {X = Accepted} (λ a. a) (Err stop) said
  unfolding command_verdict import_verdict
  cells-stop stop said told is =
      told-goes-on (λ (a : Accepted). a) (Err stop) _ netlist _ said netlist-said
      (of-file (λ (a : Accepted). a) (Err stop) (import_verdict names.decimals netlist) _
      (λ bytes at. stops (λ (c : Cells). c.file) (λ (a : Accepted). a) stop (cells_verdict names.decimals bytes) (λ (f : YalFile). to-import netlist f bytes) (told bytes at))) is

  -- and where these are read too, it is to write the PARENT behind them
  import-said : (file : YalFile) (text : List ℕ) (said : Result Accepted Refusal) → ((bytes : List ℕ) → holds names.cells ≡ Some bytes → cells_verdict names.decimals bytes ≡ Ok file)
      → ((bytes : List ℕ) → holds names.cells ≡ Some bytes → text ≡ bytes) → command_verdict (import names) holds ≡ Some said → said ≡ to-import netlist file text
  unfolding command_verdict import_verdict
  import-said file text said told same is =
      told-value (import_verdict names.decimals netlist) (holds names.cells) (to-import netlist file text)
      (λ bytes at. ap (λ (f : Result YalFile Refusal). f >>= (λ (cells : YalFile). to-import netlist cells bytes)) (told bytes at) ∙ ap (to-import netlist file) (sym (same bytes at))) said
      (told-next _ netlist (λ (b : BlifFile). option_map (import_verdict names.decimals b) (holds names.cells)) said netlist-said is)

-- what was done where they were written, or could not be
imported-for : (names : ImportNames) (netlist : BlifFile) (file : YalFile) (text : List ℕ) (parent : Module) (e : Result Done Stop) {First : (List ℕ → ℕ) → (List ℕ → ℕ) → Type 0}
    (old mid new : Files) → ((bytes : List ℕ) → old.holds names.netlist ≡ Some bytes → netlist_verdict bytes ≡ Ok netlist)
    → ((bytes : List ℕ) → old.holds names.cells ≡ Some bytes → cells_verdict names.decimals bytes ≡ Ok file) → ((bytes : List ℕ) → old.holds names.cells ≡ Some bytes → text ≡ bytes)
    → OnlyRead 0 First old mid → yal_reads text (Decimal names.decimals) ≡ Ok file → import_said (parent_of netlist file) ≡ Ok parent
    → Carries netlist file.modules parent → IsWritable parent × (is_among (module_names file.modules) parent.name ≡ false) → ReadsBack parent
    → IsTextWritten (text ++ parent_text parent) names.out e mid new → Carried (Some (import names)) e [] old new
imported-for names netlist file text parent e old mid new found told same read reads made carries writable back after =
    let written = subst (λ (m : Files). IsTextWritten (text ++ parent_text parent) names.out e m new) (read-same old mid read) after in
    written-for (text ++ parent_text parent) names.out e old new written (import names) refl
    (λ said says. import-said names netlist old.holds found file text said told same says ∙ ap (λ (p : Result Module Refusal). p >>= (λ (m : Module). Ok (to_write (text ++ parent_text m)))) made)
    (λ other equal. cc) (λ other equal. cc) (λ other layout bytes equal at zero holds. absurd cc)
    (λ other netlist_text cells_text bytes equal first second zero holds.
    let here : names ≡ other = cc in
    let is : text ≡ cells_text = same cells_text (ap (λ (m : ImportNames). old.holds m.cells) here ∙ second) in
    subst (λ (m : ImportNames). IsImportOf m.decimals netlist_text cells_text bytes) here (record {
      netlist = netlist;
      netlist_reads = netlist-reads netlist_text netlist (found netlist_text (ap (λ (m : ImportNames). old.holds m.netlist) here ∙ first));
      cells = file;
      cells_read = subst (λ (t : List ℕ). yal_reads t (Decimal names.decimals) ≡ Ok file) is reads;
      parent = parent;
      reads = ap (λ (t : List ℕ). yal_reads t (Decimal names.decimals))
          (held-is (text ++ parent_text parent) names.out e old new written bytes zero (ap (λ (m : ImportNames). new.holds m.out) here ∙ holds))
          ∙ back text (Decimal names.decimals) file reads writable.0 writable.1;
      carries = carries;
    }))

pub returns-in_err-netlist : goal.returns-in_err-netlist
unfolding command_verdict
returns-in_err-netlist g c =
    let names : ImportNames = import_seen c.args.names.now in
    stopped-early (λ (a : Accepted). a) (import names) c.in_err-netlist.field-0.0 c.from_residual.result [] _ _ c.from_residual.ensures.1
    (λ said says.
    told-stops (λ (b : BlifFile). b) (λ (a : Accepted). a) c.in_err-netlist.field-0.0 _ _ said
    (of-file (λ (b : BlifFile). b) (Err c.in_err-netlist.field-0.0) netlist_verdict _ c.in_err-netlist.ensures.loads.told) says)
    (read-also (λ eight fails. inl fails) c.in_err-netlist.ensures.loads.read) refl

pub returns-in_err-cells : goal.returns-in_err-cells
returns-in_err-cells g c =
    let names : ImportNames = import_seen c.args.names.now in
    let stop = c.in_err-cells.field-0.0 in
    let first = c.in_ok-netlist.ensures.loads in
    let loads = loads-after first.read c.in_err-cells.ensures.loads in
    stopped-early (λ (a : Accepted). a) (import names) stop c.from_residual-in_err-cells.result [] _ _ c.from_residual-in_err-cells.ensures.1
    (λ said says. cells-stop names c.in_ok-netlist.netlist (g.S.Shelf.holds c.args.shelf.now) first.told stop said loads.told says)
    (read-also (λ eight rose. inr (rose, λ bytes is. ap is_ok (first.told bytes is))) loads.read) refl

pub returns-in-Ok : goal.returns-in-Ok
returns-in-Ok g c =
    let names : ImportNames = import_seen c.args.names.now in
    let first = c.in_ok-netlist.ensures.loads in
    let loads = loads-after first.read c.in_ok-cells.ensures.loads in
    let text : (bytes : List ℕ) → g.S.Shelf.holds c.args.shelf.now names.cells ≡ Some bytes → c.in_ok-cells.cells.text.items ≡ bytes =
    λ bytes at. c.in_ok-cells.ensures.text bytes (ap (λ (h : List ℕ → Option (List ℕ)). h names.cells) first.read.files ∙ at) in
    imported-for names c.in_ok-netlist.netlist c.in_ok-cells.cells.file c.in_ok-cells.cells.text.items c.in-Ok.parent _ _ _ _ first.told loads.told text loads.read
    c.in_ok-cells.ensures.reads c.in-Ok.ensures.says.made c.in-Ok.ensures.carries (c.in-Ok.ensures.writable c.in_ok-netlist.ensures.kept (search rules)) c.import_in.ensures.reads
    (rw c.as_slice.ensures.value at c.import_in.ensures.written)

pub returns : goal.returns
returns g c =
    let names : ImportNames = import_seen c.args.names.now in
    let first = c.in_ok-netlist.ensures.loads in
    let loads = loads-after first.read c.in_ok-cells.ensures.loads in
    let text : (bytes : List ℕ) → g.S.Shelf.holds c.args.shelf.now names.cells ≡ Some bytes → c.in_ok-cells.cells.text.items ≡ bytes =
    λ bytes at. c.in_ok-cells.ensures.text bytes (ap (λ (h : List ℕ → Option (List ℕ)). h names.cells) first.read.files ∙ at) in
    let says = c.in-Err.ensures.says in
    stopped-early (λ (a : Accepted). a) (import names) (Refused c.in-Err.refusal) (Err (Refused c.in-Err.refusal)) [] _ _ refl
    (λ said is.
    subst (Finds {X = Accepted} (λ a. a) (Err (Refused c.in-Err.refusal)))
    (sym (import-said names c.in_ok-netlist.netlist (g.S.Shelf.holds c.args.shelf.now) first.told c.in_ok-cells.cells.file c.in_ok-cells.cells.text.items said loads.told text is))
    (stops (λ (m : Module). m) (λ (a : Accepted). a) (Refused c.in-Err.refusal) (import_said (parent_of c.in_ok-netlist.netlist c.in_ok-cells.cells.file))
    (λ (m : Module). Ok (to_write (c.in_ok-cells.cells.text.items ++ parent_text m))) (found-refusal (λ (m : Module). m) c.in-Err.refusal _ says.made)))
    (read-refused c.in-Err.refusal says.command loads.read) refl
