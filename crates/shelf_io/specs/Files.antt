-- files in memory
use Rattle.std.specs.Prelude.{ℕ, List, Option, Vec, String, option_map}
use Rattle.std.specs.BTreeMap.{BTreeMap, get_by_text}

-- what the file under a name holds; none where the name is lacking
abbrev pub held : {Y Z : Type 0} → BTreeMap (String Y) (Vec ℕ Z) → List ℕ → Option (List ℕ)
held files name = option_map (λ v. v.items) (get_by_text files name)
