use Rattle.std.proofs.Common.{◌≡◌, ◌<◌, ℕ, suc, ◌+◌, List, [], ◌∷◌, ◌++◌, length, map, drop, get_or, false, refl, ap, ap₂, sym, ◌∙◌, arith, append_assoc}
use Rattle.std.proofs.lemmas.List.{drop_more}
use Rattle.std.specs.Borrow.{Bor}
use Rattle.list_facts.specs.Texts.{texts}
use Rattle.list_facts.proofs.TextLaws.{length-texts}
use Rattle.std.specs.List.{AllByRecursion}
use Rattle.port_rows.specs.PortNames.{PortNames}
use Rattle.design_model.specs.Netlist.{Netlist, all_pins, pins_from, terminals_at, terminals_of_kind}
use Rattle.design_model.specs.PinOrder.{pin_pair}
use Rattle.design_model.specs.declared.design.CellKind.{CellKind}
use Rattle.design_model.specs.declared.design.Inst.{Inst}
use Rattle.design_model.specs.declared.design.Pin.{Pin}
use Rattle.design_model.specs.declared.design.Terminal.{Terminal}
use Rattle.list_facts.specs.Names.{place_among}
use Rattle.port_rows.specs.Added.{port_instance, port_pins}
use Rattle.std_laws.proofs.Places.{at-place, get-before}

-- the pins of more instances stand behind those of the first
pub pins-append : (kinds : List CellKind) (n : ℕ) (first more : List Inst) → all_pins kinds n (first ++ more) ≡ all_pins kinds n first ++ all_pins kinds (n + length first) more
pins-append kinds n [] more = let same : n ≡ n + 0 = omega arith in ap (λ (k : ℕ). all_pins kinds k more) same
pins-append kinds n (i ∷ is) more =
    let same : (n + 1) + length is ≡ n + suc (length is) = omega arith in
    ap (λ (l : List (ℕ × ℕ)). pins_from n 0 (terminals_at kinds i.kind) ++ l) (pins-append kinds (n + 1) is more ∙ ap (λ (k : ℕ). all_pins kinds (n + 1) is ++ all_pins kinds k more) same)
    ∙ sym (append_assoc (pins_from n 0 (terminals_at kinds i.kind)) (all_pins kinds (n + 1) is) (all_pins kinds (n + suc (length is)) more))

-- more kinds leave a kind's terminals
terminals-kept : (kinds more : List CellKind) (k : ℕ) → k < length kinds → terminals_at (kinds ++ more) k ≡ terminals_at kinds k
terminals-kept kinds more k within =
    let kind = at-place kinds k within in
    ap terminals_of_kind (get-before kinds more k kind.0 kind.1 ∙ sym kind.1)

-- and the pins of instances
pub pins-kept : (kinds more : List CellKind) (n : ℕ) (instances : List Inst) → AllByRecursion (λ (i : Inst). i.kind < length kinds) instances
    → all_pins (kinds ++ more) n instances ≡ all_pins kinds n instances
pins-kept kinds more n [] h = refl
pins-kept kinds more n (i ∷ is) h =
    ap₂ (λ (ts : List Terminal) (l : List (ℕ × ℕ)). pins_from n 0 ts ++ l) (terminals-kept kinds more i.kind h.0) (pins-kept kinds more (n + 1) is h.1)

-- the one terminal of a port's kind
abbrev pub port_terminals : List ℕ → List Terminal
port_terminals name = record { name = name; power = false } ∷ []

-- the pins of ports are those of their instances
pub pins-of-ports : (kinds : List CellKind) (nets : List (List ℕ)) (name : List ℕ) (kind n : ℕ) (ports : List (List ℕ))
    → (0 < length ports → terminals_at kinds kind ≡ port_terminals name) → all_pins kinds n (map (port_instance kind) ports) ≡ map pin_pair (port_pins nets n ports)
pins-of-ports kinds nets name kind n [] is = refl
pins-of-ports kinds nets name kind n (p ∷ ps) is =
    let one : 0 < length (p ∷ ps) = omega arith in
    ap (λ (ts : List Terminal). pins_from n 0 ts ++ all_pins kinds (n + 1) (map (port_instance kind) ps)) (is one)
    ∙ ap (λ (l : List (ℕ × ℕ)). (n, 0) ∷ l) (pins-of-ports kinds nets name kind (n + 1) ps (λ some. is one))

-- the pins of more ports stand behind those of the first
pub port-pins-append : (nets : List (List ℕ)) (n : ℕ) (first more : List (List ℕ)) → port_pins nets n (first ++ more) ≡ port_pins nets n first ++ port_pins nets (n + length first) more
port-pins-append nets n [] more = let same : n ≡ n + 0 = omega arith in ap (λ (k : ℕ). port_pins nets k more) same
port-pins-append nets n (p ∷ ps) more =
    let same : (n + 1) + length ps ≡ n + suc (length ps) = omega arith in
    ap (λ (l : List Pin). record { instance = n; terminal = 0; net = place_among nets p + 1 } ∷ l) (port-pins-append nets (n + 1) ps more ∙ ap (λ (k : ℕ). port_pins nets (n + 1) ps ++ port_pins nets k more) same)

pub port-pins-length : (nets : List (List ℕ)) (n : ℕ) (ports : List (List ℕ)) → length (port_pins nets n ports) ≡ length ports
port-pins-length nets n [] = refl
port-pins-length nets n (p ∷ ps) = ap suc (port-pins-length nets (n + 1) ps)

-- the pin of one more port
pub pins-next : (nets : List (List ℕ)) (items next whole : List Pin) (n net i : ℕ) (ports : List (Bor (List ℕ))) (d : Bor (List ℕ)) → i < length ports
    → net ≡ place_among nets (get_or ports i d).now + 1 → next ≡ items ++ record { instance = n; terminal = 0; net = net } ∷ []
    → items ++ port_pins nets n (texts (drop i ports)) ≡ whole → next ++ port_pins nets (n + 1) (texts (drop (i + 1) ports)) ≡ whole
pins-next nets items next whole n net i ports d within number more so_far =
    ap (λ (l : List Pin). l ++ port_pins nets (n + 1) (texts (drop (i + 1) ports))) more
    ∙ append_assoc items (record { instance = n; terminal = 0; net = net } ∷ []) (port_pins nets (n + 1) (texts (drop (i + 1) ports)))
    ∙ ap (λ (k : ℕ). items ++ record { instance = n; terminal = 0; net = k } ∷ port_pins nets (n + 1) (texts (drop (i + 1) ports))) number
    ∙ ap (λ (l : List (Bor (List ℕ))). items ++ port_pins nets n (texts l)) (sym (drop_more ports i d within))
    ∙ so_far

-- the pins of ports behind those of a design, put there side by side
pub all-port-pins : (nets : List (List ℕ)) (d : Netlist) (ports : PortNames) (made s n : List (List ℕ)) (first second : ℕ) (old lower whole : List Pin)
    → made ≡ nets → s ≡ ports.south → n ≡ ports.north → first ≡ length d.instances → second ≡ first + length s → old ≡ d.pins
    → lower ≡ old ++ port_pins made first s → whole ≡ lower ++ port_pins made second n
    → whole ≡ d.pins ++ port_pins nets (length d.instances) (ports.south ++ ports.north)
all-port-pins nets d ports made s n first second old lower whole is_made is_s is_n is_first is_second is_old is_lower is_whole =
    is_whole
    ∙ ap (λ (l : List Pin). l ++ port_pins made second n) is_lower
    ∙ append_assoc old (port_pins made first s) (port_pins made second n)
    ∙ ap (λ (k : ℕ). old ++ (port_pins made first s ++ port_pins made k n)) is_second
    ∙ ap (λ (l : List Pin). old ++ l) (sym (port-pins-append made first s n))
    ∙ ap (λ (l : List Pin). l ++ port_pins made first (s ++ n)) is_old
    ∙ ap (λ (l : List (List ℕ)). d.pins ++ port_pins l first (s ++ n)) is_made
    ∙ ap (λ (k : ℕ). d.pins ++ port_pins nets k (s ++ n)) is_first
    ∙ ap₂ (λ (a b : List (List ℕ)). d.pins ++ port_pins nets (length d.instances) (a ++ b)) is_s is_n

-- as many texts as borrowed names
pub texts-length : (first : ℕ) (names : List (Bor (List ℕ))) → first + length names ≡ first + length (texts names)
texts-length first names = ap (λ (k : ℕ). first + k) (sym (length-texts names))
