-- A letter at a place of a run, and what is left past it. The proofs of the functions of `letters` cite these. Assumes nothing.
use Prim.Native.Nat.{ℕ, ◌+◌, ◌<◌, ◌≤◌}
use mathlib.Core.Path.{◌≡◌, sym, ap, ◌∙◌}
use mathlib.Core.Bool.{Bool, true, false, and-true}
use mathlib.Core.List.{List}
use lib.ListN.{length, get_or, drop, drop_of_length-le}
use lib.Seq.{drop-cons, drop-drop}
use lib.Dec.{eqb, ltb}
use borrow.Author.Tests.{eq-eqb, ne_eqb}
use Rattle.sheet.specs.Letters.{has, past, after_flags, tag_of, letters_of}
use Rattle.std.specs.Prelude.{Option, Some, None}
use Rattle.tables.specs.declared.origins.Origin.{Origin}
use Rattle.tables.specs.declared.origins.Origin.TheVariants.{Tatsam, Tadbhav, Deshaj, Aagantuk}
use Rattle.runs.specs.Runs.{pick}
use Rattle.sheet.specs.declared.letters.Letters.{Letters}

module _ (v : List ℕ) (i c : ℕ) where
  pub has_here : i < length v → has c (drop i v) ≡ eqb c (get_or v i 0)
  has_here h = rw (drop-cons v i 0 h) (and-true (eqb c (get_or v i 0)))

  pub has_hit : i < length v → get_or v i 0 ≡ c → has c (drop i v) ≡ true
  has_hit h e = has_here h ∙ eq-eqb _ _ (sym e)

  pub has_miss : i < length v → (get_or v i 0 ≡ c → ⊥) → has c (drop i v) ≡ false
  has_miss h e = has_here h ∙ ne_eqb _ _ (λ q. e (sym q))

  pub has_end : length v ≤ i → has c (drop i v) ≡ false
  has_end h = rw (drop_of_length-le v h)

  pub past_hit : i < length v → get_or v i 0 ≡ c → drop (i + 1) v ≡ past c (drop i v)
  past_hit h e = rw (has_hit h e) (sym (drop-drop 1 i v))

  pub past-none : has c (drop i v) ≡ false → drop i v ≡ past c (drop i v)
  past-none e = rw e

-- the tag of a letter
abbrev pub tag_by : ℕ → Option Origin
tag_by b = pick (eqb 0x74 b) (Some Tatsam) (pick (eqb 0x62 b) (Some Tadbhav) (pick (eqb 0x64 b) (Some Deshaj) (pick (eqb 0x61 b) (Some Aagantuk) None)))

pub tag_here : (v : List ℕ) (i b : ℕ) → i < length v → get_or v i 0 ≡ b → tag_by b ≡ tag_of (drop i v)
unfolding tag_of
tag_here v i b h e = rw (has_here v i 0x74 h, has_here v i 0x62 h, has_here v i 0x64 h, has_here v i 0x61 h, e)

pub tag_end : (v : List ℕ) (i : ℕ) → length v ≤ i → None ≡ tag_of (drop i v)
unfolding tag_of
tag_end v i h = rw (has_end v i 0x74 h, has_end v i 0x62 h, has_end v i 0x64 h, has_end v i 0x61 h)

-- letters that agree in each part
same_letters : {a b c d e a' b' c' d' e' : Bool} {t t' : Option Origin} → a ≡ a' → b ≡ b' → c ≡ c' → d ≡ d' → e ≡ e' → t ≡ t'
    → ◌≡◌ {A = Letters} (record { word = a; head = b; verb = c; pronoun = d; spelled = e; tag = t })
    (record { word = a'; head = b'; verb = c'; pronoun = d'; spelled = e'; tag = t' })
same_letters p q r s t u = cc

-- the places w, h, r, p and e, each past its letter where that stands at the place before, tell what v spells
module _ (v : List ℕ) (w h r p e : ℕ)
    (pw : drop w v ≡ past 0x77 v) (ph : drop h v ≡ past 0x68 (drop w v)) (pr : drop r v ≡ past 0x76 (drop h v))
    (pp : drop p v ≡ past 0x70 (drop r v)) (pe : drop e v ≡ past 0x65 (drop p v)) where
  to_h : drop h v ≡ past 0x68 (past 0x77 v)
  to_h = ph ∙ ap (past 0x68) pw

  pub to_r : drop r v ≡ past 0x76 (past 0x68 (past 0x77 v))
  to_r = pr ∙ ap (past 0x76) to_h

  pub to_p : drop p v ≡ past 0x70 (past 0x76 (past 0x68 (past 0x77 v)))
  to_p = pp ∙ ap (past 0x70) to_r

  pub to_e : drop e v ≡ after_flags v
  to_e = pe ∙ ap (past 0x65) to_p

  pub spelt : (t : Option Origin) → ltb 0 w ≡ has 0x77 v → ltb w h ≡ has 0x68 (drop w v) → ltb h r ≡ has 0x76 (drop h v)
      → ltb r p ≡ has 0x70 (drop r v) → ltb p e ≡ has 0x65 (drop p v) → t ≡ tag_of (drop e v)
      → record { word = ltb 0 w; head = ltb w h; verb = ltb h r; pronoun = ltb r p; spelled = ltb p e; tag = t } ≡ letters_of v
  unfolding letters_of
  spelt t hw hh hr hp he ht =
      same_letters hw (hh ∙ ap (has 0x68) pw) (hr ∙ ap (has 0x76) to_h) (hp ∙ ap (has 0x70) to_r) (he ∙ ap (has 0x65) to_p) (ht ∙ ap tag_of to_e)
