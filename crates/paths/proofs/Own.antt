-- Parts of a word that are whole characters, with what a front or a back part of one is. Agreed and Alike cite these. Assumes nothing.
use Prim.Native.Nat.{ℕ}
use mathlib.Core.Path.{◌≡◌, refl, sym, ap, ◌∙◌}
use mathlib.Core.Bool.{true}
use mathlib.Core.List.{List, [], ◌++◌, append-nil, append_assoc}
use Rattle.text.specs.Utf8.{is_utf8, run}
use Rattle.strips.proofs.Parts.{utf8_front, utf8_back, utf8_join}
use Rattle.paths.specs.Questions.{Part}

-- Parts of parts.

nothing_utf8 : is_utf8 [] ≡ true
unfolding is_utf8 run
nothing_utf8 = refl

pub whole_part : (w : List ℕ) → is_utf8 w ≡ true → Part w w
whole_part w e = record {
  front = [];
  back = [];
  joined = sym (append-nil w);
  front_utf8 = nothing_utf8;
  part_utf8 = e;
  back_utf8 = nothing_utf8;
}

module _ (w : List ℕ) where
  pub front-part : (p q s : List ℕ) → q ++ s ≡ p → is_utf8 s ≡ true → Part w p → Part w q
  front-part p q s e u t = record {
    front = t.front;
    back = s ++ t.back;
    joined = t.joined ∙ ap (λ (l : List ℕ). t.front ++ l) (ap (λ (l : List ℕ). l ++ t.back) (sym e) ∙ append_assoc q s t.back);
    front_utf8 = t.front_utf8;
    part_utf8 = utf8_front q s (ap is_utf8 e ∙ t.part_utf8) u;
    back_utf8 = utf8_join s t.back u t.back_utf8;
  }

  pub back-part : (p q s : List ℕ) → q ++ s ≡ p → is_utf8 q ≡ true → Part w p → Part w s
  back-part p q s e u t = record {
    front = t.front ++ q;
    back = t.back;
    joined =
        t.joined
        ∙ ap (λ (l : List ℕ). t.front ++ l) (ap (λ (l : List ℕ). l ++ t.back) (sym e) ∙ append_assoc q s t.back)
        ∙ sym (append_assoc t.front q (s ++ t.back));
    front_utf8 = utf8_join t.front q t.front_utf8 u;
    part_utf8 = utf8_back q s u (ap is_utf8 e ∙ t.part_utf8);
    back_utf8 = t.back_utf8;
  }
