use Rattle.cif_text.specs.declared.command.CifCommand.TheVariants as commands
use Rattle.cif_text.specs.declared.command.UserKind.TheVariants as users
use Rattle.std.proofs.Common.{◌≡◌, refl, ap, ◌∙◌, append_assoc, ℕ, zero, suc, ◌≤◌, List, [], ◌∷◌, ◌++◌, length, length-append, Bool, true, false, arith}
use Rattle.std.specs.List.{list_all}
use Rattle.std.specs.Prelude.{Ok}
use Rattle.cif_text.specs.declared.command.CifCommand.{CifCommand}
use Rattle.cif_text.specs.Bytes.{is_ascii_byte, is_between, not_semicolon, span, skip}
use Rattle.cif_text.specs.Commands.{after_comment, is_left_out, form_of, may_stand, cut_of, command_at}
use Rattle.cif_text.specs.CifReads.{is_end, is_open_behind, commands_at, cif_reads}
use Rattle.cif_text.specs.Printing.{bytes_of, end_of, line, text_of}
use Rattle.cif_text.proofs.PrintableTexts.{is_plain_byte, IsPrintable, IsText}
use Rattle.cif_text.proofs.SpanLemmas.{span-append}
use Rattle.cif_text.proofs.FormLemmas.{box-is, layer-is, start-is, finish-is, call-is, symbol-is, instance-is, label-is}
use Rattle.cif_text.proofs.PlainLemmas.{bytes-plain}
use Rattle.std.proofs.lemmas.Bool.{and_parts, and_from}
use Rattle.std_laws.proofs.Searches.{list_all-weaker, list_all-joined}

plain-other : (c : ℕ) → is_plain_byte c ≡ true → not_semicolon c ≡ true
plain-other c plain = (and_parts (is_ascii_byte c) (not_semicolon c) plain).1

plain-ascii : (c : ℕ) → is_plain_byte c ≡ true → is_ascii_byte c ≡ true
plain-ascii c plain = (and_parts (is_ascii_byte c) (not_semicolon c) plain).0

-- a printed command is cut at its own semicolon
cut-is : (inside : Bool) (left first : ℕ) (body r : List ℕ) (c : CifCommand) → list_all is_plain_byte body ≡ true
    → is_left_out first body ≡ false → form_of first body ≡ Ok (Ok c) → may_stand inside c ≡ true
    → cut_of inside left first (span not_semicolon ((body ++ (59 ∷ 10 ∷ [])) ++ r)).0 (span not_semicolon ((body ++ (59 ∷ 10 ∷ [])) ++ r)).1
    ≡ Ok (c, 10 ∷ r)
cut-is inside left first body r c plain kept form stands =
    let bare : list_all not_semicolon body ≡ true = list_all-weaker is_plain_byte not_semicolon plain-other body plain in
    let cut : span not_semicolon ((body ++ (59 ∷ 10 ∷ [])) ++ r) ≡ (body, 59 ∷ 10 ∷ r) =
    rw append_assoc (span-append not_semicolon body (59 ∷ 10 ∷ r) bare refl) in
    ap (λ (found : List ℕ × List ℕ). cut_of inside left first found.0 found.1) cut ∙ rw (kept, form, stands) refl

-- a printed line reads as its command, and leaves its line feed
line-read : (inside : Bool) (c : CifCommand) (r : List ℕ) → IsPrintable c → may_stand inside c ≡ true → is_end c ≡ false
    → command_at inside (skip is_between (line c ++ r)) ≡ Ok (c, 10 ∷ r)
unfolding after_comment
line-read inside (commands.Box long wide cx cy upright) r h stands more =
    cut-is inside _ 66 _ r _ (bytes-plain (commands.Box long wide cx cy upright) h) refl (box-is long wide cx cy upright h.0 h.1 h.2 h.3) stands
line-read inside (commands.Layer text) r h stands more =
    cut-is inside _ 76 _ r _ (bytes-plain (commands.Layer text) h) refl (layer-is text h) stands
line-read inside (commands.Start n a b) r h stands more =
    cut-is inside _ 68 _ r _ (bytes-plain (commands.Start n a b) h) refl (start-is n a b h.0 h.1 h.2) stands
line-read inside commands.Finish r h stands more = cut-is inside _ 68 _ r _ refl refl finish-is stands
line-read inside (commands.Call n flip quarters dx dy) r h stands more =
    cut-is inside _ 67 _ r _ (bytes-plain (commands.Call n flip quarters dx dy) h) refl (call-is n flip quarters dx dy h.0 h.1 h.2 h.3) stands
line-read inside (commands.Wire width path) r h stands more = absurd h
line-read inside (commands.Polygon path) r h stands more = absurd h
line-read inside commands.Comment r h stands more = refl
line-read inside (commands.User users.SymbolName text) r h stands more =
    cut-is inside _ 57 _ r _ (bytes-plain (commands.User users.SymbolName text) h) refl (symbol-is text h) stands
line-read inside (commands.User users.InstanceName text) r h stands more =
    cut-is inside _ 57 _ r _ (bytes-plain (commands.User users.InstanceName text) h) refl (instance-is text h) stands
line-read inside (commands.User users.Label text) r h stands more =
    cut-is inside _ 57 _ r _ (bytes-plain (commands.User users.Label text) h) refl (label-is text h) stands
line-read inside (commands.User users.Other text) r h stands more = absurd h
line-read inside commands.End r h stands more = cc

-- a line feed before a command is passed over
newline : (n : ℕ) (inside : Bool) (bytes : List ℕ) → commands_at n inside (10 ∷ bytes) ≡ commands_at n inside bytes
unfolding commands_at
newline zero inside bytes = refl
newline (suc n) inside bytes = refl

-- a command before a text that reads
step-read : (n : ℕ) (inside : Bool) (c : CifCommand) (cs : List CifCommand) → IsPrintable c → may_stand inside c ≡ true → is_end c ≡ false
    → commands_at n (is_open_behind inside c) (text_of cs) ≡ Ok cs → commands_at (suc n) inside (line c ++ text_of cs) ≡ Ok (c ∷ cs)
unfolding commands_at
step-read n inside c cs h stands more others =
    rw (line-read inside c (text_of cs) h stands more, more, newline n (is_open_behind inside c) (text_of cs), others) refl

-- a printed text reads as its commands, where a definition is open or none
pub text-read : (cs : List CifCommand) (n : ℕ) (inside : Bool) → length cs ≤ n → IsText inside cs → commands_at n inside (text_of cs) ≡ Ok cs
unfolding commands_at
text-read [] n inside enough h = absurd h
text-read (c ∷ cs) zero inside enough h = absurd (omega arith)
text-read (commands.End ∷ cs) (suc n) inside enough h = rw (h.0, h.1) refl
text-read (commands.Finish ∷ cs) (suc n) inside enough h =
    step-read n inside commands.Finish cs tt h.0 refl (text-read cs n false (omega arith) h.1)
text-read (commands.Start m a b ∷ cs) (suc n) inside enough h =
    step-read n inside (commands.Start m a b) cs h.1 (rw h.0 refl) refl (text-read cs n true (omega arith) h.2)
text-read (commands.Box long wide cx cy upright ∷ cs) (suc n) inside enough h =
    step-read n inside (commands.Box long wide cx cy upright) cs h.0 refl refl (text-read cs n inside (omega arith) h.1)
text-read (commands.Layer text ∷ cs) (suc n) inside enough h =
    step-read n inside (commands.Layer text) cs h.0 refl refl (text-read cs n inside (omega arith) h.1)
text-read (commands.Call m flip quarters dx dy ∷ cs) (suc n) inside enough h =
    step-read n inside (commands.Call m flip quarters dx dy) cs h.0 refl refl (text-read cs n inside (omega arith) h.1)
text-read (commands.Wire width path ∷ cs) (suc n) inside enough h = absurd h.0
text-read (commands.Polygon path ∷ cs) (suc n) inside enough h = absurd h.0
text-read (commands.Comment ∷ cs) (suc n) inside enough h =
    step-read n inside commands.Comment cs tt refl refl (text-read cs n inside (omega arith) h.1)
text-read (commands.User kind text ∷ cs) (suc n) inside enough h =
    step-read n inside (commands.User kind text) cs h.0 refl refl (text-read cs n inside (omega arith) h.1)

first-ascii : (c : CifCommand) → is_ascii_byte (bytes_of c).0 ≡ true
first-ascii (commands.Box long wide cx cy upright) = refl
first-ascii (commands.Layer text) = refl
first-ascii (commands.Start n a b) = refl
first-ascii commands.Finish = refl
first-ascii (commands.Call n flip quarters dx dy) = refl
first-ascii (commands.Wire width path) = refl
first-ascii (commands.Polygon path) = refl
first-ascii commands.Comment = refl
first-ascii (commands.User users.SymbolName text) = refl
first-ascii (commands.User users.InstanceName text) = refl
first-ascii (commands.User users.Label text) = refl
first-ascii (commands.User users.Other text) = refl
first-ascii commands.End = refl

end-ascii : (c : CifCommand) → list_all is_ascii_byte (end_of c) ≡ true
end-ascii commands.End = refl
end-ascii _ = refl

line-ascii : (c : CifCommand) (r : List ℕ) → IsPrintable c → list_all is_ascii_byte r ≡ true → list_all is_ascii_byte (line c ++ r) ≡ true
line-ascii c r h others =
    let body : list_all is_ascii_byte (bytes_of c).1 ≡ true =
    list_all-weaker is_plain_byte is_ascii_byte plain-ascii (bytes_of c).1 (bytes-plain c h) in
    and_from (is_ascii_byte (bytes_of c).0) (list_all is_ascii_byte (((bytes_of c).1 ++ end_of c) ++ r)) (first-ascii c)
    (list_all-joined is_ascii_byte ((bytes_of c).1 ++ end_of c) r (list_all-joined is_ascii_byte (bytes_of c).1 (end_of c) body (end-ascii c)) others)

-- a printed text is of ASCII
pub text-ascii : (inside : Bool) (cs : List CifCommand) → IsText inside cs → list_all is_ascii_byte (text_of cs) ≡ true
text-ascii inside [] h = absurd h
text-ascii inside (commands.End ∷ cs) h = rw h.1 refl
text-ascii inside (commands.Finish ∷ cs) h = line-ascii commands.Finish (text_of cs) tt (text-ascii false cs h.1)
text-ascii inside (commands.Start n a b ∷ cs) h = line-ascii (commands.Start n a b) (text_of cs) h.1 (text-ascii true cs h.2)
text-ascii inside (commands.Box long wide cx cy upright ∷ cs) h =
    line-ascii (commands.Box long wide cx cy upright) (text_of cs) h.0 (text-ascii inside cs h.1)
text-ascii inside (commands.Layer text ∷ cs) h = line-ascii (commands.Layer text) (text_of cs) h.0 (text-ascii inside cs h.1)
text-ascii inside (commands.Call n flip quarters dx dy ∷ cs) h =
    line-ascii (commands.Call n flip quarters dx dy) (text_of cs) h.0 (text-ascii inside cs h.1)
text-ascii inside (commands.Wire width path ∷ cs) h = absurd h.0
text-ascii inside (commands.Polygon path ∷ cs) h = absurd h.0
text-ascii inside (commands.Comment ∷ cs) h = line-ascii commands.Comment (text_of cs) tt (text-ascii inside cs h.1)
text-ascii inside (commands.User kind text ∷ cs) h = line-ascii (commands.User kind text) (text_of cs) h.0 (text-ascii inside cs h.1)

-- a text has at least a byte for each command
length-text : (cs : List CifCommand) → length cs ≤ length (text_of cs)
length-text [] = omega arith
length-text (c ∷ cs) =
    let others = length-text cs in
    omega (arith, length-append ((bytes_of c).1 ++ end_of c) (text_of cs))

-- printed commands read as they are
pub reads-text : (cs : List CifCommand) → IsText false cs → cif_reads (text_of cs) ≡ Ok cs
unfolding cif_reads
reads-text cs h =
    let few = length-text cs in
    rw (text-ascii false cs h, text-read cs (suc (length (text_of cs))) false (omega arith) h) refl
