-- An array of structs T as a field of another struct: its elements stand there as the tuples of their fields, with the same machine values.
--     vals-same        the machine values of the elements, as tuples and as structs
--     array-in         the array's relation, of the structs, gives the field's, of the tuples
-- Assumes nothing.
use Rattle.std.specs.Prelude.{◌≡◌, refl, List, [], ◌∷◌, map, ℕ}
use Rattle.std.proofs.Common.{◌∙◌, ap}
use Rattle.std.proofs.lemmas.List.{length-map}
use mir.Val.{Val}
use denote.Array.{Array, array_vals, array_val, each}
use denote.Laws.{Is}
use denote.Shadow.{shadow}
use denote.Struct.Declared.{Declared, field, row}
use denote.Struct.Laws.{Laws, tuple_val, val, vals}

module _ (T : Declared) (L : Laws T) where
  pub vals-same : (zs : List T.D) → map (tuple_val T L) (map T.to zs) ≡ map (val T L) zs
  vals-same [] = refl
  vals-same (z ∷ zs) = ap (λ (us : List Val). val T L z ∷ us) (vals-same zs)

  each_in : (zs : List T.D) (us : List Val) → shadow (each T.D (row T).own_val zs us) → shadow (each (field T).row.Denot (field T).row.own_val (map T.to zs) us)
  each_in [] [] e = e
  each_in [] (u ∷ us) e = absurd e
  each_in (z ∷ zs) [] e = absurd e
  each_in (z ∷ zs) (u ∷ us) e = (e.0, each_in zs us e.1)

  pub array-in : (n : ℕ) (zs : List T.D) → Is (Array (row T) n) zs (array_vals (vals T L) zs) → Is (Array (field T).row n) (map T.to zs) (array_val (map (tuple_val T L) (map T.to zs)) ∷ [])
  array-in n zs e = (e.0, ((ap (λ (us : List Val). array_val us ∷ []) (vals-same zs) ∙ e.1.0.0, length-map zs T.to ∙ e.1.0.1), each_in zs e.0 e.1.1))
