-- A root's support, test by test. The proof of `is_supported` cites these. Assumes nothing.
use Prim.Native.Nat.{ℕ}
use mathlib.Core.Path.{◌≡◌, refl}
use mathlib.Core.Bool.{Bool, true, false}
use mathlib.Core.List.{List}
use lib.ListN.{length}
use borrow.Author.Tests.{eq-eqb, ne_eqb}
use Rattle.sheet.specs.Replies.{Ask}
use Rattle.paths.specs.Support.{is_supported, score_of}
use Rattle.analysis.specs.Supports.{support_of, score_from, supports}
use Rattle.analysis.specs.declared.support.Support.{Support}

module _ (s : Support) (n : ℕ) where
  pub empty : n ≡ 0 → false ≡ supports s n
  empty e = rw (eq-eqb n 0 e)

  module _ (e : n ≡ 0 → ⊥) where
    pub by_word : s.word ≡ true → true ≡ supports s n
    by_word w = rw (ne_eqb n 0 e, w)

    pub by_head : s.word ≡ false → s.head ≡ true → true ≡ supports s n
    by_head w h = rw (ne_eqb n 0 e, w, h)

    pub by_sibling : s.word ≡ false → s.head ≡ false → s.sibling ≡ true → true ≡ supports s n
    by_sibling w h b = rw (ne_eqb n 0 e, w, h, b)

    pub by_rest : s.word ≡ false → s.head ≡ false → s.sibling ≡ false → s.progressive ≡ supports s n
    by_rest w h b = rw (ne_eqb n 0 e, w, h, b)

-- a support is its parts
pub same_support : {a b c d a' b' c' d' : Bool} → a ≡ a' → b ≡ b' → c ≡ c' → d ≡ d'
    → ◌≡◌ {A = Support} (record { word = a; head = b; sibling = c; progressive = d }) (record { word = a'; head = b'; sibling = c'; progressive = d' })
same_support p q r s = cc

-- the support of a root says whether it is supported, and its score
module _ (ask : Ask) (root : List ℕ) where
  pub supports_is : supports (support_of ask root) (length root) ≡ is_supported ask root
  unfolding is_supported
  supports_is = refl

  pub score_is : (surface prefixes suffixes : ℕ) → score_from surface (support_of ask root) prefixes suffixes ≡ score_of ask surface root prefixes suffixes
  unfolding score_of
  score_is surface prefixes suffixes = refl
