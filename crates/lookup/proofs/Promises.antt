-- Two sheets that reply alike to a question get the same answer to it: letters, infinitive, kind. The contracts of
-- `letters_of`, `link_of` and `kind_of` say that the code gives these. Assumes nothing.
use Rattle.std.specs.Prelude.{Option}
use mathlib.Core.Path.{◌≡◌, sym, ap, ◌∙◌}
use mathlib.Core.List.{List}
use Prim.Native.Nat.{ℕ}
use Rattle.sheet.specs.Replies.{Alike, letters_told, letters_for}
use Rattle.lookup.specs.declared.answers.Spot.{Spot}
use Rattle.lookup.specs.Answers.{text_at, ValueOf, named, NameOf, kind_told, kind_for}

module _ (s t : List ℕ) (name : List ℕ) where
  pub same_letters : Alike s t 0x77 name → letters_for s name ≡ letters_for t name
  unfolding Alike letters_for
  same_letters h = ap letters_told h

  pub same_kind : Alike s t 0x6B name → kind_for s name ≡ kind_for t name
  unfolding Alike kind_for
  same_kind h = ap kind_told h

  pub same_value : (letter : ℕ) (a b : Option Spot) → Alike s t letter name → ValueOf s letter name a → ValueOf t letter name b → text_at s a ≡ text_at t b
  unfolding Alike
  same_value letter a b h k l = k.reads ∙ h ∙ sym l.reads

  pub same_name : (letter : ℕ) (a b : Option Spot) → Alike s t letter name → NameOf s letter name a → NameOf t letter name b → text_at s a ≡ text_at t b
  unfolding Alike
  same_name letter a b h k l = k.reads ∙ ap (named name) h ∙ sym l.reads
