-- A word's own questions are no more than document 01's list has: by cases, and of the empty word only रहनु and the kind lines of the 25
-- texts. Were everything the word's own, "same answer for sheets that reply alike" would say nothing. Assumes nothing.
use Prim.Native.Nat.{ℕ, ◌<◌}
use native.Mathlib.Omega.{arith}
use mathlib.Core.Path.{◌≡◌, refl, sym, ap, ◌∙◌}
use mathlib.Core.Bool.{true}
use mathlib.Core.Logic.{◌⊎◌, inl, inr}
use mathlib.Core.List.{List, [], ◌++◌, append-nil}
use lib.ListN.{length, get_or, length-append}
use Rattle.tables.specs.Tables.{affixes}
use Rattle.sheet.specs.Forms.{syllable_nu}
use Rattle.text.specs.Utf8.{is_utf8}
use Rattle.sheet.specs.Replies.{unknown, told, Ask, reply, Alike}
use Rattle.progressive.specs.Progressive.{rahanu, virama, letter_u}
use Rattle.paths.specs.Questions.{Run, Own, alone, with_text, with_nu, with_virama, with_u, of_rahanu, link, infinitive, kind}

-- a run of whole characters, spelled out
abbrev pub IsRun : List ℕ → List ℕ → Type 0
IsRun w p =
    (front : List ℕ) × (back : List ℕ) × (w ≡ front ++ (p ++ back)) × (is_utf8 front ≡ true) × (is_utf8 p ≡ true) × (is_utf8 back ≡ true) × (0 < length p)

is_run : (w p : List ℕ) → Run w p → IsRun w p
is_run w p r = (r.part.front, r.part.back, r.part.joined, r.part.front_utf8, r.part.part_utf8, r.part.back_utf8, r.some)

-- a run of the word alone, or with one of the 25 texts, नु, ्नु or उनु appended
abbrev pub Appended : List ℕ → List ℕ → List ℕ → Type 0
Appended w name end = (p : List ℕ) × IsRun w p × (name ≡ p ++ end)

-- `w` lines that a question may ask for
abbrev pub Words : Ask → List ℕ → List ℕ → Type 0
Words ask w name =
    Appended w name []
    ⊎ (((k : ℕ) × (k < 25) × Appended w name (get_or affixes k []))
    ⊎ (Appended w name syllable_nu
    ⊎ (Appended w name (virama ++ syllable_nu)
    ⊎ (Appended w name (letter_u ++ syllable_nu)
    ⊎ ((name ≡ rahanu)
    ⊎ ((p : List ℕ) × IsRun w p × (ask 0x6C p ≡ told name)))))))

-- what a question of the word asks for: a `w` line, a link line of a run, a kind line of one of the 25 texts
abbrev pub Asks : Ask → List ℕ → ℕ → List ℕ → Type 0
Asks ask w letter name =
    ((letter ≡ 0x77) × Words ask w name)
    ⊎ (((letter ≡ 0x6C) × IsRun w name)
    ⊎ ((letter ≡ 0x6B) × ((k : ℕ) × (k < 25) × (name ≡ get_or affixes k []))))

pub own_listed : (ask : Ask) (w : List ℕ) {letter : ℕ} {name : List ℕ} → Own ask w letter name → Asks ask w letter name
own_listed ask w (alone p r) = inl (refl, inl (p, is_run w p r, sym (append-nil p)))
own_listed ask w (with_text p r k h) = inl (refl, inr (inl (k, h, (p, is_run w p r, refl))))
own_listed ask w (with_nu p r) = inl (refl, inr (inr (inl (p, is_run w p r, refl))))
own_listed ask w (with_virama p r) = inl (refl, inr (inr (inr (inl (p, is_run w p r, refl)))))
own_listed ask w (with_u p r) = inl (refl, inr (inr (inr (inr (inl (p, is_run w p r, refl))))))
own_listed ask w of_rahanu = inl (refl, inr (inr (inr (inr (inr (inl refl))))))
own_listed ask w (link p r) = inr (inl (refl, is_run w p r))
own_listed ask w (infinitive p v r e) = inl (refl, inr (inr (inr (inr (inr (inr (p, is_run w p r, e)))))))
own_listed ask w (kind k h) = inr (inr (refl, (k, h, refl)))

-- the empty word has no run
no_run : (p : List ℕ) → Run [] p → ⊥
no_run p r =
    let a = ap (length {A = ℕ}) r.part.joined in
    let b = length-append r.part.front (p ++ r.part.back) in
    let c = length-append p r.part.back in
    let d = r.some in
    absurd (omega arith)

pub empty_own : (ask : Ask) {letter : ℕ} {name : List ℕ} → Own ask [] letter name
    → ((letter ≡ 0x77) × (name ≡ rahanu)) ⊎ ((letter ≡ 0x6B) × ((k : ℕ) × (k < 25) × (name ≡ get_or affixes k [])))
empty_own ask (alone p r) = absurd (no_run p r)
empty_own ask (with_text p r k h) = absurd (no_run p r)
empty_own ask (with_nu p r) = absurd (no_run p r)
empty_own ask (with_virama p r) = absurd (no_run p r)
empty_own ask (with_u p r) = absurd (no_run p r)
empty_own ask of_rahanu = inl (refl, refl)
empty_own ask (link p r) = absurd (no_run p r)
empty_own ask (infinitive p v r e) = absurd (no_run p r)
empty_own ask (kind k h) = inr (refl, (k, h, refl))

-- two sheets that give one reply to a question reply alike, so that "alike" asks no more than that
pub alike_unknown : (s t : List ℕ) (letter : ℕ) (name : List ℕ) → reply s letter name ≡ unknown → reply t letter name ≡ unknown → Alike s t letter name
unfolding Alike
alike_unknown s t letter name e f = e ∙ sym f

pub alike_told : (s t : List ℕ) (letter : ℕ) (name v : List ℕ) → reply s letter name ≡ told v → reply t letter name ≡ told v → Alike s t letter name
unfolding Alike
alike_told s t letter name v e f = e ∙ sym f
