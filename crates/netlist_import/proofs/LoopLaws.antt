use Rattle.std.proofs.Common.{◌≡◌, ℕ, ◌≤◌, true, false, List, [], ◌∷◌, ◌++◌, length, drop, refl, sym, ap, ◌∙◌, append_assoc, append-nil, Result, Ok}
use Rattle.std.proofs.lemmas.List.{drop_all, map-append}
use Rattle.std.specs.Borrow.{Bor}
use Rattle.list_facts.proofs.TextLaws.{texts-append}
use Rattle.list_facts.specs.Texts.{texts}
use Rattle.read_base.specs.Answers.{Fails}
use Rattle.blif_reader.specs.declared.file.BlifFile.{BlifFile}
use Rattle.blif_reader.specs.declared.file.BlifWord.{BlifWord}
use Rattle.blif_reader.specs.declared.file.Gate.{Gate}
use Rattle.blif_reader.specs.declared.file.Join.{Join}
use Rattle.yal_reader.specs.declared.file.Module.{Module}
use Rattle.netlist_import.specs.Constants.{is_driven, undriven_in}
use Rattle.netlist_import.specs.Faults.{told_of}
use Rattle.netlist_import.specs.Nets.{Rename, all_seen, rename_of, renamed, renames_behind, seen}
use Rattle.netlist_import.specs.Parent.{fitting_name, fitting_names, fitting_terminal, fitting_terminals}
use Rattle.netlist_import.specs.declared.fault.ImportFault.{ImportFault}
use Rattle.netlist_import.specs.declared.fault.ImportFault.TheVariants.{Bad, Memory}
use Rattle.netlist_import.specs.declared.fault.ImportFlaw.{ImportFlaw}
use Rattle.netlist_import.specs.declared.nets.Renaming.{Renaming}

-- the names of instances: one that is refused, one more, and no more
pub names-fail : (stop : ImportFault) (taken : List (List ℕ)) (xs rest : List BlifWord) (w : BlifWord) (total : Result (Unit {0}) ImportFlaw) → xs ≡ w ∷ rest
    → Fails told_of stop (fitting_name taken w) → fitting_names taken xs ≡ total → Fails told_of stop total
unfolding fitting_names
names-fail Memory taken xs rest w total is wrong so_far = tt
names-fail (Bad e) taken xs rest w total is wrong so_far = sym so_far ∙ rw (is, wrong) refl

pub names-on : (taken more : List (List ℕ)) (xs rest : List BlifWord) (w : BlifWord) (total : Result (Unit {0}) ImportFlaw) → xs ≡ w ∷ rest
    → fitting_name taken w ≡ Ok w.text → more ≡ taken ++ w.text ∷ [] → fitting_names taken xs ≡ total → fitting_names more rest ≡ total
unfolding fitting_names
names-on taken more xs rest w total is fits grown so_far = ap (λ (t : List (List ℕ)). fitting_names t rest) grown ∙ sym (rw (is, fits) refl) ∙ so_far

pub names-end : (taken : List (List ℕ)) (xs : List BlifWord) (n : ℕ) (total : Result (Unit {0}) ImportFlaw) → length xs ≤ n → fitting_names taken (drop n xs) ≡ total → total ≡ Ok tt
unfolding fitting_names
names-end taken xs n total done so_far = sym so_far ∙ rw (drop_all n xs done) refl

-- the terminals of the model: the same
pub terminals-fail : (stop : ImportFault) (rs : List Rename) (undriven taken : List (List ℕ)) (xs rest : List BlifWord) (t : BlifWord) (total : Result (List (List ℕ)) ImportFlaw) → xs ≡ t ∷ rest
    → Fails told_of stop (fitting_terminal rs undriven taken t) → fitting_terminals rs undriven taken xs ≡ total → Fails told_of stop total
unfolding fitting_terminals
terminals-fail Memory rs undriven taken xs rest t total is wrong so_far = tt
terminals-fail (Bad e) rs undriven taken xs rest t total is wrong so_far = sym so_far ∙ rw (is, wrong) refl

pub terminals-on : (rs : List Rename) (undriven taken more : List (List ℕ)) (xs rest : List BlifWord) (t : BlifWord) (total : Result (List (List ℕ)) ImportFlaw) → xs ≡ t ∷ rest
    → fitting_terminal rs undriven taken t ≡ Ok t.text → more ≡ taken ++ t.text ∷ [] → fitting_terminals rs undriven taken xs ≡ total → fitting_terminals rs undriven more rest ≡ total
unfolding fitting_terminals
terminals-on rs undriven taken more xs rest t total is fits grown so_far = ap (λ (u : List (List ℕ)). fitting_terminals rs undriven u rest) grown ∙ sym (rw (is, fits) refl) ∙ so_far

pub terminals-end : (rs : List Rename) (undriven taken : List (List ℕ)) (xs : List BlifWord) (n : ℕ) (total : Result (List (List ℕ)) ImportFlaw) → length xs ≤ n
    → fitting_terminals rs undriven taken (drop n xs) ≡ total → total ≡ Ok taken
unfolding fitting_terminals
terminals-end rs undriven taken xs n total done so_far = sym so_far ∙ rw (drop_all n xs done) refl

-- the renamings of joins: one more, and no more
pub renames-on : (b : BlifFile) (found : List Renaming) (xs rest : List Join) (j : Join) (r : Renaming) (total : List Rename) → xs ≡ j ∷ rest
    → seen r ≡ rename_of b (renamed (all_seen found) j.first.text) (renamed (all_seen found) j.second.text) → renames_behind b (all_seen found) xs ≡ total
    → renames_behind b (all_seen (found ++ r ∷ [])) rest ≡ total
unfolding renames_behind
renames-on b found xs rest j r total is new so_far =
    ap (λ (rs : List Rename). renames_behind b rs rest) (map-append seen found (r ∷ []) ∙ ap (λ (x : Rename). all_seen found ++ x ∷ []) new) ∙ sym (rw is refl) ∙ so_far

pub renames-end : (b : BlifFile) (found : List Renaming) (xs : List Join) (n : ℕ) (total : List Rename) → length xs ≤ n → renames_behind b (all_seen found) (drop n xs) ≡ total → all_seen found ≡ total
unfolding renames_behind
renames-end b found xs n total done so_far = sym (rw (drop_all n xs done) refl) ∙ so_far

-- the constant nets that no gate drives: one that is driven, one that is not, and no more
pub undriven-off : (rs : List Rename) (modules : List Module) (gates : List Gate) (found : List (Bor (List ℕ))) (xs rest : List BlifWord) (k : BlifWord) (total : List (List ℕ)) → xs ≡ k ∷ rest
    → is_driven rs modules gates (renamed rs k.text) ≡ true → texts found ++ undriven_in rs modules gates xs ≡ total → texts found ++ undriven_in rs modules gates rest ≡ total
unfolding undriven_in
undriven-off rs modules gates found xs rest k total is driven so_far = sym (rw (is, driven) refl) ∙ so_far

pub undriven-on : (rs : List Rename) (modules : List Module) (gates : List Gate) (found : List (Bor (List ℕ))) (xs rest : List BlifWord) (k : BlifWord) (net : Bor (List ℕ)) (total : List (List ℕ)) → xs ≡ k ∷ rest
    → net.now ≡ renamed rs k.text → is_driven rs modules gates (renamed rs k.text) ≡ false → texts found ++ undriven_in rs modules gates xs ≡ total
    → texts (found ++ net ∷ []) ++ undriven_in rs modules gates rest ≡ total
unfolding undriven_in
undriven-on rs modules gates found xs rest k net total is word driven so_far =
    ap (λ (l : List (List ℕ)). l ++ undriven_in rs modules gates rest) (texts-append found (net ∷ []))
    ∙ append_assoc (texts found) (net.now ∷ []) (undriven_in rs modules gates rest)
    ∙ ap (λ (w : List ℕ). texts found ++ w ∷ undriven_in rs modules gates rest) word
    ∙ sym (rw (is, driven) refl) ∙ so_far

pub undriven-end : (rs : List Rename) (modules : List Module) (gates : List Gate) (found : List (Bor (List ℕ))) (xs : List BlifWord) (n : ℕ) (total : List (List ℕ)) → length xs ≤ n
    → texts found ++ undriven_in rs modules gates (drop n xs) ≡ total → texts found ≡ total
unfolding undriven_in
undriven-end rs modules gates found xs n total done so_far = sym (append-nil (texts found)) ∙ sym (rw (drop_all n xs done) refl) ∙ so_far
