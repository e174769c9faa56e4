use Rattle.std.proofs.Common.{◌≡◌, ℕ, List, [], ◌∷◌, ◌++◌, map, refl, sym, ap, ◌∙◌, append_assoc, codes}
use Rattle.yal_reader.specs.declared.file.Call.{Call}
use Rattle.yal_reader.specs.declared.file.Module.{Module}
use Rattle.yal_writer.specs.ParentText.{call_words, calls_text, end_words, heading_text, heading_words, line_words, lines_text, middle_words, parent_text, statement, statements, word_end}

-- statements in two parts
pub statements-append : (xs ys : List (List (List ℕ))) → statements (xs ++ ys) ≡ statements xs ++ statements ys
statements-append [] ys = refl
statements-append (ws ∷ xs) ys = ap (λ (text : List ℕ). statement ws ++ text) (statements-append xs ys) ∙ sym (append_assoc (statement ws) (statements xs) (statements ys))

-- the text of a PARENT in its parts
pub parent-parts : (m : Module) → heading_text m.name ++ (lines_text m.lines ++ (codes "ENDIOLIST;\nNETWORK;\n" ++ (calls_text m.calls ++ codes "ENDNETWORK;\nENDMODULE;\n"))) ≡ parent_text m
unfolding heading_text parent_text
parent-parts m = sym
    (ap (λ (t : List ℕ). 10 ∷ t)
    (statements-append (heading_words m.name) (map line_words m.lines ++ (middle_words ++ (map call_words m.calls ++ end_words)))
    ∙ ap (λ (t : List ℕ). statements (heading_words m.name) ++ t)
    (statements-append (map line_words m.lines) (middle_words ++ (map call_words m.calls ++ end_words))
    ∙ ap (λ (t : List ℕ). lines_text m.lines ++ t)
    (statements-append middle_words (map call_words m.calls ++ end_words)
    ∙ ap (λ (t : List ℕ). codes "ENDIOLIST;\nNETWORK;\n" ++ t) (statements-append (map call_words m.calls) end_words)))))

-- the text before the lines in its parts
pub heading-parts : (name : List ℕ) → (codes "\nMODULE " ++ name) ++ codes ";\nTYPE PARENT;\nIOLIST;\n" ≡ heading_text name
unfolding heading_text
heading-parts name = simp append_assoc

-- a call in its parts
pub called-parts : (name kind end : List ℕ) → (name ++ codes " ") ++ (kind ++ end) ≡ (name ++ (codes " " ++ kind)) ++ end
called-parts name kind end = simp append_assoc

pub call-parts : (c : Call) → ((c.name ++ (codes " " ++ c.«module»)) ++ word_end c.signals) ++ statement c.signals ≡ statement (call_words c)
call-parts c = simp append_assoc
