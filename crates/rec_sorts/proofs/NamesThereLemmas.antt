-- The names of declarations, where they lie.
use Rattle.std.proofs.Common.{refl, sym, ap, ◌∙◌}
use Rattle.std.proofs.lemmas.List.{get_or-map}
use Rattle.std.specs.Prelude.{ℕ, ◌≡◌, ◌<◌, List, [], ◌∷◌, length, map, get_or, slice_range}
use Rattle.rec_syntax.specs.Parts.{declaration_of}
use Rattle.rec_syntax.specs.declared.parts.Declaration.{Declaration}
use Rattle.rec_sorts.specs.Lookup.{names}
use Rattle.rec_sorts.specs.Numbering.{bytes_at}

bytes-names : (source : List ℕ) (ds : List Declaration) → map (λ w. w.bytes) (names (map (declaration_of source) ds)) ≡ map (λ (d : Declaration).
    slice_range source d.name.from d.name.to) ds
bytes-names source [] = refl
bytes-names source (d ∷ ds) = ap (λ (bs : List (List ℕ)). slice_range source d.name.from d.name.to ∷ bs) (bytes-names source ds)

-- the name of a declaration lies where it says
pub bytes_at-declaration : (source : List ℕ) (ds : List Declaration) (k : ℕ) (d : Declaration) → k < length ds
    → slice_range source (get_or ds k d).name.from (get_or ds k d).name.to ≡ bytes_at (names (map (declaration_of source) ds)) k
bytes_at-declaration source ds k d h =
    sym (get_or-map (λ (c : Declaration). slice_range source c.name.from c.name.to) ds k d [] h)
    ∙ ap (λ (bs : List (List ℕ)). get_or bs k []) (sym (bytes-names source ds))
