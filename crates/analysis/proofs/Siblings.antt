-- A name with each of a list of texts appended, one after the other. The proof of `has_sibling` cites these. Assumes nothing.
use Prim.Native.Nat.{ℕ, suc, ◌<◌}
use native.Mathlib.Omega.{arith}
use mathlib.Core.Path.{◌≡◌, refl, sym, ap, ◌∙◌}
use mathlib.Core.Bool.{Bool, true, false, ◌||◌}
use mathlib.Core.List.{List, [], ◌∷◌, ◌++◌}
use lib.ListN.{length}
use lib.Dec.{ltb}
use borrow.Author.Tests.{ltb-true}
use Rattle.runs.proofs.Begins.{and_left, and_right}
use Rattle.tables.specs.Rows.{plural_markers, case_markers, particles}
use Rattle.tables.specs.Tables.{affixes}
use Rattle.tables.proofs.Tested.{every}
use Rattle.sheet.specs.declared.letters.Letters.{Letters}
use Rattle.std.proofs.Common.{Bor, map}
use Rattle.std.specs.List.{list_any}
use Rattle.sheet.specs.Letters.{is_known as known_by}
use Rattle.sheet.specs.Replies.{Ask, Reply, reply, letters_told, letters_for}
use Rattle.paths.specs.Support.{known_with}

-- a name with each of the texts that are lent
pub known_any : (s name : List ℕ) (rows : List (Bor (List ℕ))) → list_any (λ (t : Bor (List ℕ)). known_by (letters_for s (name ++ t.now))) rows
    ≡ known_with (reply s) name (map (λ (t : Bor (List ℕ)). t.now) rows)
unfolding known_with letters_for
known_any s name [] = refl
known_any s name (t ∷ rows) = ap (λ (b : Bool). known_by (letters_for s (name ++ t.now)) || b) (known_any s name rows)

-- nothing is known where no question that begins with the name has a reply
pub none_known : (ask : Ask) (name : List ℕ) (ts : List (List ℕ)) → ((q : List ℕ) → ask 0x77 (name ++ q) ≡ Reply.unknown) → known_with ask name ts ≡ false
unfolding known_with
none_known ask name [] u = refl
none_known ask name (t ∷ ts) u = rw (u t) (none_known ask name ts u)

-- none of the texts is empty
abbrev has_bytes : ℕ → List ℕ → Bool
has_bytes k t = ltb 0 (length t)

affixes_long : every has_bytes 0 affixes ≡ true
unfolding affixes plural_markers case_markers particles
affixes_long = refl

-- no text gives a known name where only the name itself has a reply
longer : (ask : Ask) (name : List ℕ) (ts : List (List ℕ)) (i : ℕ) → every has_bytes i ts ≡ true → ((q : List ℕ) → 0 < length q → ask 0x77 (name ++ q) ≡ Reply.unknown) →
    known_with ask name ts ≡ false
unfolding known_with
longer ask name [] i e u = refl
longer ask name (t ∷ ts) i e u =
    rw (u t (ltb-true 0 (length t) (and_left (has_bytes i t) (every has_bytes (suc i) ts) e))) (longer ask name ts (suc i) (and_right (has_bytes i t) (every has_bytes (suc i) ts) e) u)

pub alone_known : (ask : Ask) (name : List ℕ) → ((q : List ℕ) → 0 < length q → ask 0x77 (name ++ q) ≡ Reply.unknown) → known_with ask name affixes ≡ false
alone_known ask name u = longer ask name affixes 0 affixes_long u

-- a name with letters has a reply
pub has-reply : (x : Reply) (l : Letters) → l ≡ letters_told x → (l.word || l.head) ≡ true → x ≡ Reply.unknown → ⊥
has-reply x l e b u =
    let z : true ≡ false = sym b ∙ ap (λ (y : Letters). y.word || y.head) (e ∙ ap letters_told u) in
    let n : ◌≡◌ {A = ℕ} 0 1 = cc in absurd (omega arith)
