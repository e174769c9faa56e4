-- a layer name as contracts see it, and the four bytes and the length that store it
use Rattle.std.specs.Prelude.{◌≡◌, ℕ, List, length, take, true}
use Rattle.std.proofs.Common.{ap, ◌∙◌}
use Rattle.geom_core.specs.LayerText.{is_layer_text, filled}
use Rattle.geom_core.specs.declared.layer.LayerName.TheInside.{Inside}

-- the name that is stored
abbrev pub layer_text : Inside → List ℕ
layer_text a = take a.length a.bytes

-- four bytes, of which the first `length` are a layer's name and the others are 0
pub record IsNamed (a : Inside) : Type 0 where
  pub length_is : length (take a.length a.bytes) ≡ a.length
  pub text : is_layer_text (take a.length a.bytes) ≡ true
  pub zeros : filled (take a.length a.bytes) ≡ a.bytes

abbrev made : List ℕ → ℕ → Inside
made bytes len = record { bytes = bytes; length = len }

-- how a name is stored
abbrev pub inside_of : List ℕ → Inside
inside_of text = record { bytes = filled text; length = length text }

pub inverse_is : (a : Inside) → IsNamed a → inside_of (layer_text a) ≡ a
inverse_is a h =
    ap (λ (bytes : List ℕ). made bytes (length (layer_text a))) h.zeros ∙ ap (λ (len : ℕ). made a.bytes len) h.length_is
