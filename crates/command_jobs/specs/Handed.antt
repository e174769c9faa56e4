-- what is told is handed on

-- it stands where it stood, and went on so
pub record IsHanded (same_place goes_on : Type 0) : Type 0 where
  pub place : same_place
  pub goes : goes_on
