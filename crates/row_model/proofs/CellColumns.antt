use Rattle.std.proofs.Common.{◌≡◌, ◌<◌, ◌≤◌, ℕ, zero, suc, ◌+◌, List, [], ◌∷◌, length, map, Bool, true, false, ◌&&◌, eqb, Option, None, Some, refl, ap, sym, ◌∙◌, arith, slice_get}
use Rattle.std.proofs.lemmas.Bool.{cond-false, ne_eqb}
use Rattle.std.proofs.lemmas.Option.{none-some, same_Some, slice_get-map}
use Rattle.std.specs.List.{AllByRecursion, find, range_with_len}
use Rattle.std.specs.Option.{option_and_then, option_map}
use Rattle.design_model.specs.Netlist.{IsKind, IsNetlist, IsPosition, Netlist}
use Rattle.design_model.specs.declared.design.CellKind.{CellKind}
use Rattle.design_model.specs.declared.design.Inst.{Inst}
use Rattle.design_model.specs.declared.design.Pin.{Pin}
use Rattle.design_model.specs.declared.design.Position.{Position}
use Rattle.row_model.specs.Stands.{column_in, is_on, positions_in}
use Rattle.row_model.specs.PinColumns.{columns_there, kind_columns, nowhere, of_terminal, pin_columns, table_there, terminal_columns}
use Rattle.row_model.specs.declared.cell_columns.PinColumns.{PinColumns}
use Rattle.std_laws.proofs.Members.{all-get, find-filter, find-same}
use Rattle.std_laws.proofs.Every.{every-from-get, every-weaker}

same-columns : (a b : PinColumns) → a.first ≡ b.first → a.bottom ≡ b.bottom → a.top ≡ b.top → a ≡ b
same-columns a b first bottom top =
    ap (λ (o : Option ℕ). record { first = o; bottom = a.bottom; top = a.top }) first
    ∙ ap (λ (o : Option ℕ). record { first = b.first; bottom = o; top = a.top }) bottom
    ∙ ap (λ (o : Option ℕ). record { first = b.first; bottom = b.bottom; top = o }) top

-- the columns of a terminal among its own positions are those among all
pub own-columns : (positions : List Position) (t : ℕ) → terminal_columns (of_terminal t positions) t ≡ terminal_columns positions t
own-columns positions t =
    same-columns (terminal_columns (of_terminal t positions) t) (terminal_columns positions t) (same own (λ a. twice (own a)))
    (same (λ (a : Position). own a && is_on false a) (λ a. again (own a) (is_on false a))) (same (λ (a : Position). own a && is_on true a) (λ a. again (own a) (is_on true a)))
  where
    own : Position → Bool
    own a = eqb a.terminal t

    twice : (b : Bool) → (b && b) ≡ b
    twice true = refl
    twice false = refl

    again : (a b : Bool) → (a && (a && b)) ≡ (a && b)
    again true b = refl
    again false b = refl

    same : (test : Position → Bool) → ((a : Position) → (own a && test a) ≡ test a) → column_in (find test (of_terminal t positions)) ≡ column_in (find test positions)
    same test kept = ap column_in (find-filter test own positions ∙ find-same (λ (a : Position). own a && test a) test kept positions)

-- a terminal past those of positions has none
find-none : (test : Position → Bool) (positions : List Position) → AllByRecursion (λ (p : Position). test p ≡ false) positions → column_in (find test positions) ≡ None
find-none test [] none = refl
find-none test (p ∷ positions) none =
    ap column_in (cond-false (test p) (Some p) (find test positions) none.0) ∙ find-none test positions none.1

-- the positions of a kind are of its terminals
positions-within : (k : CellKind) → IsKind k → AllByRecursion (λ (p : Position). p.terminal < length k.terminals) k.positions
positions-within k is =
    every-from-get (λ (p : Position). p.terminal < length k.terminals) k.positions (λ n p at. (all-get (IsPosition k) k.positions n p is.positions at).within)

terminal-past : (k : CellKind) → IsKind k → (t : ℕ) → length k.terminals ≤ t → nowhere ≡ terminal_columns k.positions t
terminal-past k is t past =
    sym (same-columns (terminal_columns k.positions t) nowhere
    (find-none (λ (a : Position). eqb a.terminal t) k.positions
    (every-weaker (λ (p : Position). p.terminal < length k.terminals) (λ (p : Position). eqb p.terminal t ≡ false) (λ p below. other p below) k.positions
    (positions-within k is)))
    (find-none (λ (a : Position). eqb a.terminal t && is_on false a) k.positions
    (every-weaker (λ (p : Position). p.terminal < length k.terminals) (λ (p : Position). (eqb p.terminal t && is_on false p) ≡ false)
    (λ p below. ap (λ (b : Bool). b && is_on false p) (other p below)) k.positions (positions-within k is)))
    (find-none (λ (a : Position). eqb a.terminal t && is_on true a) k.positions
    (every-weaker (λ (p : Position). p.terminal < length k.terminals) (λ (p : Position). (eqb p.terminal t && is_on true p) ≡ false)
    (λ p below. ap (λ (b : Bool). b && is_on true p) (other p below)) k.positions (positions-within k is))))
  where
    other : (p : Position) → p.terminal < length k.terminals → eqb p.terminal t ≡ false
    other p below = ne_eqb p.terminal t (λ is. absurd (omega (arith, is, below, past)))

-- what a table has for a terminal
tabled-range : (f : ℕ → PinColumns) (a n t : ℕ) → (n ≤ t → nowhere ≡ f (a + t)) → columns_there (slice_get (map f (range_with_len a n)) t) ≡ f (a + t)
tabled-range f a zero t past = past (omega arith)
tabled-range f a (suc n) zero past = ap f (plus a)
  where
    plus : (k : ℕ) → k ≡ k + 0
    plus k = omega arith
tabled-range f a (suc n) (suc t) past = tabled-range f (a + 1) n t (λ more. past (omega (arith, more)) ∙ ap f (sym (next a t))) ∙ ap f (next a t)
  where
    next : (k m : ℕ) → (k + 1) + m ≡ k + suc m
    next k m = omega arith

tabled-kind : (kinds : List CellKind) → ((kind : ℕ) (k : CellKind) → slice_get kinds kind ≡ Some k → IsKind k) → (kind t : ℕ)
    → columns_there (slice_get (table_there (slice_get (map kind_columns kinds) kind)) t) ≡ terminal_columns (positions_in (slice_get kinds kind)) t
tabled-kind kinds are kind t =
    ap (λ (o : Option (List PinColumns)). columns_there (slice_get (table_there o) t)) (slice_get-map kind_columns kinds kind) ∙ by (slice_get kinds kind) refl
  where
    plain : (n : ℕ) → 0 + n ≡ n
    plain n = omega arith

    by : (o : Option CellKind) → slice_get kinds kind ≡ o
        → columns_there (slice_get (table_there (option_map kind_columns o)) t) ≡ terminal_columns (positions_in o) t
    by None at = refl
    by (Some k) at =
        tabled-range (terminal_columns k.positions) 0 (length k.terminals) t
        (λ past. terminal-past k (are kind k at) t past ∙ ap (terminal_columns k.positions) (sym (plain t))) ∙ ap (terminal_columns k.positions) (plain t)

-- the columns of a pin of an instance by the tables of the kinds
pub by_tables : (d : Netlist) → IsNetlist d → (tables : List (List PinColumns)) → tables ≡ map kind_columns d.kinds → (p : Pin) (kind : ℕ)
    → Some kind ≡ option_map (λ (i : Inst). i.kind) (slice_get d.instances p.instance)
    → columns_there (slice_get (table_there (slice_get tables kind)) p.terminal) ≡ pin_columns d p
by_tables d good tables are p kind of = by (slice_get d.instances p.instance) refl of
  where
    kinds-are : (n : ℕ) (k : CellKind) → slice_get d.kinds n ≡ Some k → IsKind k
    kinds-are n k at = all-get IsKind d.kinds n k good.kinds at

    by : (o : Option Inst) → slice_get d.instances p.instance ≡ o → Some kind ≡ option_map (λ (i : Inst). i.kind) o
        → columns_there (slice_get (table_there (slice_get tables kind)) p.terminal) ≡ pin_columns d p
    by None at none = absurd (none-some kind (sym none))
    by (Some inst) at is =
        ap (λ (l : List (List PinColumns)). columns_there (slice_get (table_there (slice_get l kind)) p.terminal)) are
        ∙ tabled-kind d.kinds kinds-are kind p.terminal
        ∙ ap (λ (n : ℕ). terminal_columns (positions_in (slice_get d.kinds n)) p.terminal) (same_Some kind inst.kind is)
        ∙ ap (λ (i : Option Inst). terminal_columns (positions_in (option_and_then (λ (i : Inst). slice_get d.kinds i.kind) i)) p.terminal) (sym at)
