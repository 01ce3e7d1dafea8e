-- A row of a table of texts as the code meets it on its way through the table. Assumes nothing.
use mathlib.Core.Path.{◌≡◌, sym, ap, ◌∙◌}
use mathlib.Core.List.{List, [], map}
use Prim.Native.Nat.{ℕ, ◌<◌}
use lib.ListN.{length, get_or}
use Rattle.std.proofs.lemmas.List.{get_or-map}

pub row_at : {X : Type 0} (text : X → List ℕ) (rows : List X) (texts : List (List ℕ)) (k : ℕ) (d : X) → map text rows ≡ texts → k < length rows
    → text (get_or rows k d) ≡ get_or texts k []
row_at text rows texts k d e h = sym (get_or-map text rows k d [] h) ∙ ap (λ (xs : List (List ℕ)). get_or xs k []) e
