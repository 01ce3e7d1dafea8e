-- Request (k) as theorems: what is found of a line, said of the sheet's lines; that nothing is found exactly where every reference holds;
-- which lines are reported, in which order; which number is given; how much room is enough. Assumes nothing.
use Rattle.std.specs.Prelude.{Err, Ok, Result, Option, Some, None}
use Rattle.refusals.specs.declared.Refusal.{Refusal}
use Prim.Native.Nat.{ℕ, suc, ◌+◌, ◌*◌, ◌/◌, ◌≤◌}
use native.Mathlib.Omega.{arith}
use mathlib.Core.Path.{◌≡◌, refl, sym, ap, subst, ◌∙◌}
use mathlib.Core.Bool.{Bool, true, false, ◌||◌}
use mathlib.Core.Logic.{◌↔◌, ⊎_elim}
use mathlib.Core.List.Memᴰ
use mathlib.Core.List.{List, [], ◌∷◌, ◌++◌, map, Memᴰ}
use lib.ListN.{length, length-append}
use lib.Dec.{eqb, ltb}
use borrow.Author.Tests.{eqb-true, eqb-false, eq-eqb, le-leb}
use Rattle.runs.specs.Runs.{pick, cmp, same_text}
use Rattle.std.specs.declared.cmp.Ordering.TheVariants.{Less}
use Rattle.runs.proofs.Ordered.{cmp_trans, cmp_refl, same_refl, same_true}
use Rattle.tables.specs.Tables.{affixes}
use Rattle.refusals.specs.Refusals.{written_numbers, cause_if, lowest_numbers_of, or_else}
use Rattle.refusals.proofs.Lowest.{AtLeast}
use Rattle.refusals.proofs.Outputs.{room_lowest}
use Rattle.refusals.specs.declared.Refusal.TheVariants.{OutputTooShort}
use Rattle.text.specs.Utf8.{is_utf8, run}
use Rattle.text.specs.Names.{holds_forbidden}
use Rattle.text.specs.Word.{word_check}
use Rattle.sheet.specs.Letters.{letters_of}
use Rattle.sheet.specs.Forms.{Entry, key, key_of}
use Rattle.sheet.specs.Lines.{starts_from, starts_of, line_at, lines_of, sheet_check}
use Rattle.sheet.specs.Inputs.{by_sheet, inputs_of, numbers_given, causes}
use Rattle.sheet.proofs.Refusals.{lowest_then}
use Rattle.sheet.specs.Replies.{Reply, unknown, told, reply_in, reply}
use Rattle.sheet.proofs.Texts.{Rises, accepted_rises}
use Rattle.writing.specs.Decimal.{decimal, digits_in}
use Rattle.referred.specs.declared.Fault.{Fault}
use Rattle.referred.specs.declared.Fault.TheVariants.{Missing, NotVerb, Unused}
use Rattle.referred.specs.Report.{verb_fault, is_text, fault_of, fault_at, found, findings_at, findings_of, finding_line, finding_lines, report_text}
use Rattle.referred.specs.Holds.{VerbLine, HasVerb, NamesText, Holds, AllHold, Ascending, IsFinding}
use Rattle.referred.specs.Codes.{code_of, codes_of, fault_in}
use Rattle.referred.specs.declared.Finding.{Finding}
use Rattle.referred.specs.Answers.{answered_by, report_outcome, found_outcome}
use Rattle.referred.proofs.Found.{codes_length, code-back}
use Rattle.referred.proofs.Sizes.{findings_few, report_size}

-- a reply comes from a line with the question's key
told_line : (es : List Entry) (q v : List ℕ) → reply_in es q ≡ told v → (f : Entry) × Memᴰ f es × (key f ≡ q) × (f.value ≡ v)
told_line [] q v h = let z : ◌≡◌ {A = ℕ} 0 1 = cc in absurd (omega arith)
told_line (e ∷ es) q v h = by (same_text (key e) q) refl h (told_line es q v)
  where
    by : (b : Bool) → same_text (key e) q ≡ b → pick b (told e.value) (reply_in es q) ≡ told v
        → (reply_in es q ≡ told v → (f : Entry) × Memᴰ f es × (key f ≡ q) × (f.value ≡ v)) → (f : Entry) × Memᴰ f (e ∷ es) × (key f ≡ q) × (f.value ≡ v)
    by true p k rest = (e, Memᴰ.head refl, same_true _ _ p, cc)
    by false p k rest = let r = rest k in (r.0, Memᴰ.tail r.1, r.2, r.3)

-- all lines of a sheet that rises stand above what the first stands above
above : (last : List ℕ) (es : List Entry) → Rises last es → (f : Entry) → Memᴰ f es → cmp last (key f) ≡ Less
above last [] g f m = absurd (Memᴰ.not-nil m)
above last (e ∷ es) g f m = ⊎_elim (λ p. ap (λ (x : Entry). cmp last (key x)) p ∙ g.1) (λ k. cmp_trans last (key e) (key f) g.1 (above (key e) es g.2 f k)) (Memᴰ.cases_cons m)

not_same : (a b : List ℕ) → cmp a b ≡ Less → same_text a b ≡ false
not_same a b h = by (same_text a b) refl
  where
    by : (c : Bool) → same_text a b ≡ c → c ≡ false
    by true e = let p : cmp a b ≡ cmp b b = ap (λ (x : List ℕ). cmp x b) (same_true a b e) in let q = cmp_refl b in let z : ◌≡◌ {A = ℕ} 0 1 = cc in absurd (omega arith)
    by false e = refl

-- and every line of it is the reply to its own key
line-told : (last : List ℕ) (es : List Entry) → Rises last es → (f : Entry) → Memᴰ f es → reply_in es (key f) ≡ told f.value
line-told last [] g f m = absurd (Memᴰ.not-nil m)
line-told last (e ∷ es) g f m = ⊎_elim here (λ k. there k (line-told (key e) es g.2 f k)) (Memᴰ.cases_cons m)
  where
    here : f ≡ e → reply_in (e ∷ es) (key f) ≡ told f.value
    here p = subst (λ (x : Entry). pick (same_text (key e) (key x)) (told e.value) (reply_in es (key x)) ≡ told x.value) (sym p) (rw (same_refl (key e)))

    there : Memᴰ f es → reply_in es (key f) ≡ told f.value → reply_in (e ∷ es) (key f) ≡ told f.value
    there k r = rw (not_same (key e) (key f) (above (key e) es g.2 f k)) r

-- the texts that a name is compared with
text_member : (k : List ℕ) (ts : List (List ℕ)) → is_text k ts ≡ true → (t : List ℕ) × Memᴰ t ts × (k ≡ key_of 0x6B t)
unfolding is_text
text_member k [] h = let z : ◌≡◌ {A = ℕ} 0 1 = cc in absurd (omega arith)
text_member k (t ∷ ts) h = by (same_text k (key_of 0x6B t)) refl h (text_member k ts)
  where
    by : (b : Bool) → same_text k (key_of 0x6B t) ≡ b → (b || is_text k ts) ≡ true → (is_text k ts ≡ true → (t : List ℕ) × Memᴰ t ts × (k ≡ key_of 0x6B t))
        → (u : List ℕ) × Memᴰ u (t ∷ ts) × (k ≡ key_of 0x6B u)
    by true p h rest = (t, Memᴰ.head refl, same_true _ _ p)
    by false p h rest = let r = rest h in (r.0, Memᴰ.tail r.1, r.2)

member_text : (k : List ℕ) (ts : List (List ℕ)) (t : List ℕ) → Memᴰ t ts → k ≡ key_of 0x6B t → is_text k ts ≡ true
unfolding is_text
member_text k [] t m e = absurd (Memᴰ.not-nil m)
member_text k (u ∷ ts) t m e = ⊎_elim here (λ n. there (member_text k ts t n e)) (Memᴰ.cases_cons m)
  where
    here : t ≡ u → is_text k (u ∷ ts) ≡ true
    here p = let q : same_text k (key_of 0x6B u) ≡ true = ap (λ (x : List ℕ). same_text k (key_of 0x6B x)) (sym p) ∙ ap (same_text k) (sym e) ∙ same_refl k in rw q

    or_true : (b : Bool) → (b || true) ≡ true
    or_true true = refl
    or_true false = refl

    there : is_text k ts ≡ true → is_text k (u ∷ ts) ≡ true
    there q = rw q (or_true (same_text k (key_of 0x6B u)))

module _ (s : List ℕ) (h : sheet_check s ≡ Ok tt) where
  -- what the verb's line says decides
  verb_of : (e : Entry) → (r : Reply) → reply s 0x77 e.value ≡ r → (v : List ℕ) → r ≡ told v → (f : Entry) × VerbLine (lines_of s) e f × (f.value ≡ v)
  unfolding reply
  verb_of e r p v q = let t = told_line (lines_of s) (key_of 0x77 e.value) v (p ∙ q) in (t.0, record { there = t.1; named = t.2 }, t.3)

  verb-told : (e f : Entry) → VerbLine (lines_of s) e f → reply s 0x77 e.value ≡ told f.value
  unfolding reply
  verb-told e f w = ap (reply_in (lines_of s)) (sym w.named) ∙ line-told [] (lines_of s) (accepted_rises s h) f w.there

  -- a link is sound exactly where its verb has a line with v
  sound_link : (e : Entry) → (verb_fault (reply s 0x77 e.value) ≡ None) ↔ HasVerb (lines_of s) e
  sound_link e = (by (reply s 0x77 e.value) refl, λ w. ap verb_fault (verb-told e w.0 w.1) ∙ rw w.2)
    where
      by : (r : Reply) → reply s 0x77 e.value ≡ r → verb_fault r ≡ None → HasVerb (lines_of s) e
      by unknown p k = let z : ◌≡◌ {A = ℕ} 0 1 = cc in absurd (omega arith)
      by (told v) p k = on (letters_of v).verb refl k
        where
          on : (b : Bool) → (letters_of v).verb ≡ b → pick b None (Some NotVerb) ≡ None → HasVerb (lines_of s) e
          on true q k = let w = verb_of e (told v) p v refl in (w.0, w.1, ap (λ (x : List ℕ). (letters_of x).verb) w.2 ∙ q)
          on false q k = let z : ◌≡◌ {A = ℕ} 0 1 = cc in absurd (omega arith)

  -- a link is missing exactly where no line is its verb's, and no verb exactly where that line lacks v
  pub missing_exactly : (e : Entry) → (verb_fault (reply s 0x77 e.value) ≡ Some Missing) ↔ ((f : Entry) → VerbLine (lines_of s) e f → ⊥)
  missing_exactly e = (by (reply s 0x77 e.value) refl, on (reply s 0x77 e.value) refl)
    where
      by : (r : Reply) → reply s 0x77 e.value ≡ r → verb_fault r ≡ Some Missing → (f : Entry) → VerbLine (lines_of s) e f → ⊥
      by unknown p k f w = let q = sym p ∙ verb-told e f w in let z : ◌≡◌ {A = ℕ} 0 1 = cc in omega arith
      by (told v) p k f w = told-not (letters_of v).verb k
        where
          told-not : (b : Bool) → pick b None (Some NotVerb) ≡ Some Missing → ⊥
          told-not true q = let z : ◌≡◌ {A = ℕ} 0 1 = cc in omega arith
          told-not false q = let z : ◌≡◌ {A = ℕ} 0 1 = cc in omega arith

      on : (r : Reply) → reply s 0x77 e.value ≡ r → ((f : Entry) → VerbLine (lines_of s) e f → ⊥) → verb_fault r ≡ Some Missing
      on unknown p n = refl
      on (told v) p n = let w = verb_of e (told v) p v refl in absurd (n w.0 w.1)

  pub notverb_exactly : (e : Entry) → (verb_fault (reply s 0x77 e.value) ≡ Some NotVerb) ↔ ((f : Entry) × VerbLine (lines_of s) e f × ((letters_of f.value).verb ≡ false))
  notverb_exactly e = (by (reply s 0x77 e.value) refl, λ w. ap verb_fault (verb-told e w.0 w.1) ∙ rw w.2)
    where
      by : (r : Reply) → reply s 0x77 e.value ≡ r → verb_fault r ≡ Some NotVerb → (f : Entry) × VerbLine (lines_of s) e f × ((letters_of f.value).verb ≡ false)
      by unknown p k = let z : ◌≡◌ {A = ℕ} 0 1 = cc in absurd (omega arith)
      by (told v) p k = on (letters_of v).verb refl k
        where
          on : (b : Bool) → (letters_of v).verb ≡ b → pick b None (Some NotVerb) ≡ Some NotVerb → (f : Entry) × VerbLine (lines_of s) e f × ((letters_of f.value).verb ≡ false)
          on false q k = let w = verb_of e (told v) p v refl in (w.0, w.1, ap (λ (x : List ℕ). (letters_of x).verb) w.2 ∙ q)
          on true q k = let z : ◌≡◌ {A = ℕ} 0 1 = cc in absurd (omega arith)

  -- and by the letter of its line: a link has the fault of its verb, a kind line the one of its suffix, a `w` line none
  pub link-fault : (e : Entry) → e.letter ≡ 0x6C → fault_of (reply s) e ≡ verb_fault (reply s 0x77 e.value)
  unfolding fault_of
  link-fault e l = rw (eq-eqb e.letter 0x6C l)

  pub unused_exactly : (e : Entry) → (fault_of (reply s) e ≡ Some Unused) ↔ ((e.letter ≡ 0x6B) × (NamesText e → ⊥))
  unfolding fault_of
  unused_exactly e = by (eqb e.letter 0x6C) (eqb e.letter 0x6B) refl refl
    where
      verb-not : (r : Reply) → verb_fault r ≡ Some Unused → ⊥
      verb-not unknown k = let z : ◌≡◌ {A = ℕ} 0 1 = cc in omega arith
      verb-not (told v) k = on (letters_of v).verb k
        where
          on : (b : Bool) → pick b None (Some NotVerb) ≡ Some Unused → ⊥
          on true q = let z : ◌≡◌ {A = ℕ} 0 1 = cc in omega arith
          on false q = let z : ◌≡◌ {A = ℕ} 0 1 = cc in omega arith

      kind : (b : Bool) → is_text (key e) affixes ≡ b → pick b None (Some Unused) ≡ Some Unused → NamesText e → ⊥
      kind true q k n = let z : ◌≡◌ {A = ℕ} 0 1 = cc in omega arith
      kind false q k n = let m = member_text (key e) affixes n.0 n.1 n.2 in let z : ◌≡◌ {A = ℕ} 0 1 = cc in omega arith

      back : (b : Bool) → is_text (key e) affixes ≡ b → (NamesText e → ⊥) → pick b None (Some Unused) ≡ Some Unused
      back true q n = absurd (n (text_member (key e) affixes q))
      back false q n = refl

      by : (l k : Bool) → eqb e.letter 0x6C ≡ l → eqb e.letter 0x6B ≡ k
          → (pick l (verb_fault (reply s 0x77 e.value)) (pick k (pick (is_text (key e) affixes) None (Some Unused)) None) ≡ Some Unused) ↔ ((e.letter ≡ 0x6B) × (NamesText e → ⊥))
      by true k p q = (λ f. absurd (verb-not (reply s 0x77 e.value) f), λ w. let n = eqb-true e.letter 0x6C p in let m = w.0 in absurd (omega arith))
      by false true p q = (λ f. (eqb-true e.letter 0x6B q, kind (is_text (key e) affixes) refl f), λ w. back (is_text (key e) affixes) refl w.1)
      by false false p q = (λ f. let z : ◌≡◌ {A = ℕ} 0 1 = cc in absurd (omega arith), λ w. absurd (eqb-false _ _ q w.0))

  -- nothing is wrong with a line exactly where its reference holds
  pub sound_exactly : (e : Entry) → (fault_of (reply s) e ≡ None) ↔ Holds (lines_of s) e
  unfolding fault_of
  sound_exactly e = by (eqb e.letter 0x6C) (eqb e.letter 0x6B) refl refl
    where
      kind : (b : Bool) → is_text (key e) affixes ≡ b → pick b None (Some Unused) ≡ None → NamesText e
      kind true q k = text_member (key e) affixes q
      kind false q k = let z : ◌≡◌ {A = ℕ} 0 1 = cc in absurd (omega arith)

      by : (l k : Bool) → eqb e.letter 0x6C ≡ l → eqb e.letter 0x6B ≡ k
          → (pick l (verb_fault (reply s 0x77 e.value)) (pick k (pick (is_text (key e) affixes) None (Some Unused)) None) ≡ None) ↔ Holds (lines_of s) e
      by true k p q =
          let n : e.letter ≡ 0x6C = eqb-true e.letter 0x6C p in
          (λ f. record { link = λ z. (sound_link e).0 f; kind = λ z. absurd (omega arith) }, λ w. (sound_link e).1 (w.link n))
      by false true p q =
          let n : e.letter ≡ 0x6B = eqb-true e.letter 0x6B q in (
            λ f. record { link = λ z. absurd (omega arith); kind = λ z. kind (is_text (key e) affixes) refl f },
            λ w. let t = w.kind n in rw (member_text (key e) affixes t.0 t.1 t.2),
          )
      by false false p q = (λ f. record { link = λ z. absurd (eqb-false _ _ p z); kind = λ z. absurd (eqb-false _ _ q z) }, λ w. refl)

  -- nothing is found exactly where every reference holds
  found_none : (at : ℕ) (f : Option Fault) → found at f ≡ [] → f ≡ None
  found_none at None e = refl
  found_none at (Some f) e = let z : ◌≡◌ {A = ℕ} 1 0 = ap length e in absurd (omega arith)

  split_none : {A : Type 0} (a b : List A) → a ++ b ≡ [] → (a ≡ []) × (b ≡ [])
  split_none [] b e = (refl, e)
  split_none (x ∷ a) b e = let z : ◌≡◌ {A = ℕ} (suc (length (a ++ b))) 0 = ap length e in absurd (omega arith)

  none_means : (places : List ℕ) → findings_at s places ≡ [] → (e : Entry) → Memᴰ e (map (line_at s) places) → fault_of (reply s) e ≡ None
  unfolding findings_at
  none_means [] k e m = absurd (Memᴰ.not-nil m)
  none_means (at ∷ places) k e m =
      let p = split_none (found at (fault_at s at)) (findings_at s places) k in
      ⊎_elim (λ q. ap (fault_of (reply s)) q ∙ found_none at (fault_at s at) p.0) (λ n. none_means places p.1 e n) (Memᴰ.cases_cons m)

  means_none : (places : List ℕ) → ((e : Entry) → Memᴰ e (map (line_at s) places) → fault_of (reply s) e ≡ None) → findings_at s places ≡ []
  unfolding findings_at
  means_none [] f = refl
  means_none (at ∷ places) f = let q = f (line_at s at) (Memᴰ.head refl) in rw q (means_none places (λ e m. f e (Memᴰ.tail m)))

  pub none_exactly : (findings_of s ≡ []) ↔ AllHold (lines_of s)
  none_exactly = (
    λ k e m. (sound_exactly e).0 (none_means (starts_of s) k e m),
    λ w. means_none (starts_of s) (λ e m. (sound_exactly e).1 (w e m)),
  )

-- the report of a sheet whose references all hold
abbrev pub check_zero : List ℕ
check_zero = 0x28 ∷ 0x63 ∷ 0x68 ∷ 0x65 ∷ 0x63 ∷ 0x6B ∷ 0x20 ∷ 0x30 ∷ 0x29 ∷ 0x0A ∷ []

module _ (s : List ℕ) where
  one_long : (at : ℕ) (f : Option Fault) (rest : List Finding) → 12 * length rest ≤ length (finding_lines s rest) → 12 * length (found at f ++ rest) ≤ length (finding_lines s (found at f ++ rest))
  unfolding finding_lines finding_line
  one_long at None rest h = h
  one_long at (Some Missing) rest h = simp length-append (omega arith)
  one_long at (Some NotVerb) rest h = simp length-append (omega arith)
  one_long at (Some Unused) rest h = simp length-append (omega arith)

  lines_long : (places : List ℕ) → 12 * length (findings_at s places) ≤ length (finding_lines s (findings_at s places))
  unfolding findings_at finding_lines
  lines_long [] = omega arith
  lines_long (at ∷ places) = one_long at (fault_at s at) (findings_at s places) (lines_long places)

  zero_none : report_text s ≡ check_zero → findings_of s ≡ []
  unfolding report_text
  zero_none e = by (findings_of s) (lines_long (starts_of s)) (ap length e)
    where
      by : (fs : List Finding) → 12 * length fs ≤ length (finding_lines s fs)
          → length ((0x28 ∷ 0x63 ∷ 0x68 ∷ 0x65 ∷ 0x63 ∷ 0x6B ∷ 0x20 ∷ []) ++ (decimal (length fs) ++ ((0x29 ∷ 0x0A ∷ []) ++ finding_lines s fs))) ≡ 10 → fs ≡ []
      by [] h k = refl
      by (f ∷ fs) h k =
          let l = simp length-append at k in
          absurd (omega arith)

  none_zero : findings_of s ≡ [] → report_text s ≡ check_zero
  unfolding report_text finding_lines decimal digits_in
  none_zero e = rw e

  -- (check 0) is written exactly where every reference holds
  pub zero_exactly : sheet_check s ≡ Ok tt → (report_text s ≡ check_zero) ↔ AllHold (lines_of s)
  zero_exactly h = (λ e. (none_exactly s h).0 (zero_none e), λ w. none_zero ((none_exactly s h).1 w))

  -- what is reported are the lines whose reference does not hold, and nothing besides
  abbrev Wrong : List ℕ → Finding → Type 0
  Wrong places f = Memᴰ f.line places × (fault_at s f.line ≡ Some f.fault)

  wrong_here : (at : ℕ) (places : List ℕ) (x : Fault) → fault_at s at ≡ Some x → (f : Finding) → f ≡ record { line = at; fault = x } → Wrong (at ∷ places) f
  wrong_here at places x e f q = subst (Wrong (at ∷ places)) (sym q) (Memᴰ.head refl, e)

  wrong_later : (at : ℕ) (places : List ℕ) (f : Finding) → Wrong places f → Wrong (at ∷ places) f
  wrong_later at places f w = (Memᴰ.tail w.0, w.1)

  reported : (places : List ℕ) (f : Finding) → Memᴰ f (findings_at s places) → Wrong places f
  unfolding findings_at
  reported [] f m = absurd (Memᴰ.not-nil m)
  reported (at ∷ places) f m = by (fault_at s at) refl m (reported places f)
    where
      by : (x : Option Fault) → fault_at s at ≡ x → Memᴰ f (found at x ++ findings_at s places) → (Memᴰ f (findings_at s places) → Wrong places f) → Wrong (at ∷ places) f
      by None e m rest = wrong_later at places f (rest m)
      by (Some x) e m rest = ⊎_elim (wrong_here at places x e f) (λ k. wrong_later at places f (rest k)) (Memᴰ.cases_cons m)

  behind-found : (at : ℕ) (x : Option Fault) (rest : List Finding) (f : Finding) → Memᴰ f rest → Memᴰ f (found at x ++ rest)
  behind-found at None rest f m = m
  behind-found at (Some x) rest f m = Memᴰ.tail m

  all_found : (places : List ℕ) (f : Finding) → Wrong places f → Memᴰ f (findings_at s places)
  unfolding findings_at
  all_found [] f w = absurd (Memᴰ.not-nil w.0)
  all_found (at ∷ places) f w =
      ⊎_elim here (λ k. behind-found at (fault_at s at) (findings_at s places) f (all_found places f (k, w.1))) (Memᴰ.cases_cons w.0)
    where
      here : f.line ≡ at → Memᴰ f (found at (fault_at s at) ++ findings_at s places)
      here e =
          let x : fault_at s at ≡ Some f.fault = ap (fault_at s) (sym e) ∙ w.1 in
          let r : record { line = at; fault = f.fault } ≡ f = ap (λ (n : ℕ). record { line = n; fault = f.fault }) (sym e) in
          subst (λ (g : Finding). Memᴰ g (found at (fault_at s at) ++ findings_at s places)) r
          (subst (λ (y : Option Fault). Memᴰ (record { line = at; fault = f.fault }) (found at y ++ findings_at s places)) (sym x) (Memᴰ.head refl))

  pub found_exactly : (f : Finding) → Memᴰ f (findings_of s) ↔ IsFinding s f
  found_exactly f = (
    λ m. let w = reported (starts_of s) f m in record { begins = w.0; wrong = w.1 },
    λ i. all_found (starts_of s) f (i.begins, i.wrong),
  )

  -- in the sheet's order, each line once
  lower : (m n : ℕ) (xs : List ℕ) → m ≤ n → Ascending n xs → Ascending m xs
  lower m n [] h a = tt
  lower m n (x ∷ xs) h a = let k = a.0 in (omega arith, a.1)

  starts_ascend : (c : Bool) (n : ℕ) (t : List ℕ) → Ascending n (starts_from c n t)
  starts_ascend c n [] = tt
  starts_ascend true n (b ∷ t) = (omega arith, starts_ascend (eqb b 0x0A) (suc n) t)
  starts_ascend false n (b ∷ t) = lower n (suc n) (starts_from (eqb b 0x0A) (suc n) t) (omega arith) (starts_ascend (eqb b 0x0A) (suc n) t)

  findings_ascend : (n : ℕ) (places : List ℕ) → Ascending n places → Ascending n (map (λ f. f.line) (findings_at s places))
  unfolding findings_at
  findings_ascend n [] a = tt
  findings_ascend n (at ∷ places) a = by (fault_at s at) (findings_ascend (suc at) places a.1)
    where
      by : (x : Option Fault) → Ascending (suc at) (map (λ f. f.line) (findings_at s places)) → Ascending n (map (λ f. f.line) (found at x ++ findings_at s places))
      by None r = let k = a.0 in lower n (suc at) (map (λ f. f.line) (findings_at s places)) (omega arith) r
      by (Some x) r = (a.0, r)

  pub in_order_lem : Ascending 0 (map (λ f. f.line) (findings_of s))
  in_order_lem = findings_ascend 0 (starts_of s) (starts_ascend true 0 s)

  -- the sheet's numbers, 4 to 6, come before 8
  no_word : inputs_of [] s ≡ by_sheet (sheet_check s)
  unfolding inputs_of word_check is_utf8 holds_forbidden run
  no_word = refl

  lowest_by : (size room : ℕ) → written_numbers (answered_by (by_sheet (sheet_check s)) size room) ≡ lowest_numbers_of (causes [] s ++ cause_if (ltb room size) OutputTooShort)
  lowest_by size room =
      sym (lowest_then [] s (cause_if (ltb room size) OutputTooShort) (seven (ltb room size)) ∙ ap (λ (i : Result (Unit {0}) Refusal). or_else (numbers_given i) (lowest_numbers_of (cause_if (ltb room size) OutputTooShort))) no_word ∙ by (by_sheet (sheet_check s)))
    where
      seven : (b : Bool) → AtLeast 7 (cause_if b OutputTooShort)
      seven true = (omega arith, tt)
      seven false = tt

      by : (i : Result (Unit {0}) Refusal) → or_else (numbers_given i) (lowest_numbers_of (cause_if (ltb room size) OutputTooShort)) ≡ written_numbers (answered_by i size room)
      by (Ok _) = sym (room_lowest size room)
      by (Err r) = refl

  pub report_lowest : (out : List ℕ) → written_numbers (report_outcome s out) ≡ lowest_numbers_of (causes [] s ++ cause_if (ltb (length out) (length (report_text s))) OutputTooShort)
  unfolding report_outcome
  report_lowest out = lowest_by (length (report_text s)) (length out)

  pub found_lowest : (out : List ℕ) → written_numbers (found_outcome s out) ≡ lowest_numbers_of (causes [] s ++ cause_if (ltb (length out) (length (codes_of (findings_of s)))) OutputTooShort)
  unfolding found_outcome
  found_lowest out = lowest_by (length (codes_of (findings_of s))) (length out)

  -- the sheet's length and 13 bytes are always enough for the report, as many places as it has lines for the findings
  pub report_enough : sheet_check s ≡ Ok tt → (out : List ℕ) → length s + 13 ≤ length out → report_outcome s out ≡ Ok (length (report_text s))
  unfolding report_outcome
  report_enough h out k = rw (h, le-leb (length (report_text s)) (length out) (omega (arith, report_size s h)))

  pub found_enough : sheet_check s ≡ Ok tt → (out : List ℕ) → length (starts_of s) ≤ length out → found_outcome s out ≡ Ok (length (findings_of s))
  unfolding found_outcome
  found_enough h out k =
      let n = codes_length (findings_of s) in
      rw (h, le-leb (length (codes_of (findings_of s))) (length out) (omega (arith, findings_few s (starts_of s), n))) (ap Ok n)

  -- a code says its finding again
  pub read_back_lem : (f : Finding) → Memᴰ f (findings_of s) → (code_of f / 256 ≡ f.line) × (fault_in (code_of f) ≡ f.fault)
  read_back_lem f m = code-back s f.line f.fault
