-- What a token of a text is (document 02 (a)), with no scan in sight: a longest run of whole characters none of which parts, with a
-- character in U+0900 to U+097F. proofs/Promises.antt shows that `tokens_of` is the list of these. Assumes nothing.
use Rattle.std.specs.Prelude.{ℕ, ◌+◌, ◌≤◌, ◌<◌, ◌≡◌, true, false, length}
use mathlib.Core.List.{List, [], ◌∷◌, ◌++◌, Memᴰ}
use Rattle.tokenizer.specs.Scalars.{Character, bytes, scalar}
use Rattle.tokenizer.specs.Parting.{parts, devanagari}

-- every one of cs has the property
abbrev pub Each : (List ℕ → Type 0) → List (List ℕ) → Type 0
Each P [] = Unit {0}
Each P (c ∷ cs) = P c × Each P cs

-- from byte a up to byte e of s stand whole characters, and none of them parts
pub record Run (s : List ℕ) (a e : ℕ) : Type 0 where
  pub front : List (List ℕ)
  pub inner : List (List ℕ)
  pub back : List (List ℕ)
  pub characters : Each Character front × Each Character inner × Each Character back
  pub text : s ≡ bytes front ++ (bytes inner ++ bytes back)
  pub starts : a ≡ length (bytes front)
  pub ends : e ≡ a + length (bytes inner)
  pub plain : Each (λ c. parts (scalar c) ≡ false) inner

-- such a run is a token: it has a character in the range, and no other such run reaches from its start or before it to its end or behind it
pub record Token (s : List ℕ) (a e : ℕ) : Type 0 where
  pub run : Run s a e
  pub held : (c : List ℕ) × Memᴰ c run.inner × (devanagari (scalar c) ≡ true)
  pub longest : (b f : ℕ) → Run s b f → b ≤ a → e ≤ f → (b ≡ a) × (f ≡ e)

-- a token by its places: from byte `start` up to byte `end`
pub record Span : Type 0 where
  pub start : ℕ
  pub end : ℕ

abbrev pub span : ℕ → ℕ → Span
span a e = record { start = a; end = e }

-- in text order, and no two overlap: each begins where the one before it ends or later, and none is empty
abbrev pub InOrder : ℕ → List Span → Type 0
InOrder from [] = Unit {0}
InOrder from (t ∷ ts) = (from ≤ t.start) × (t.start < t.end) × InOrder t.end ts
