-- Decomposition, root candidates and origin ask a sheet for the letters of parts of the word alone, the word itself among them: replies
-- that agree for every part give the same. Replied cites it for two sheets. Assumes nothing.
use Prim.Native.Nat.{ℕ, suc, ◌≤◌, ◌<◌}
use native.Mathlib.Omega.{arith}
use mathlib.Core.Path.{◌≡◌, refl, sym, ap, ap₂, subst, ◌∙◌}
use mathlib.Core.Bool.{Bool, true, false, ◌&&◌}
use mathlib.Core.List.Memᴰ
use mathlib.Core.List.{List, [], ◌∷◌, ◌++◌, Memᴰ}
use lib.ListN.{length, drop, get_or, length-append}
use lib.Dec.{leb}
use Rattle.runs.specs.Runs.{pick, begins_with}
use Rattle.runs.proofs.Begins.{and_left, begins-front}
use Rattle.text.specs.Utf8.{is_utf8}
use Rattle.text.specs.Characters.{chars}
use Rattle.tables.specs.Rows.{prefix_forms, suffixes, strip_suffixes}
use Rattle.tables.proofs.Facts.{prefix_form_text, prefix_form_count, suffix_text, suffix-count, strip_suffix_text, strip_suffix_count}
use Rattle.sheet.specs.Letters.{is_known}
use Rattle.sheet.specs.Replies.{Ask, Reply, letters_told, letters_by}
use Rattle.sheet.specs.declared.letters.Letters.{Letters}
use Rattle.strips.specs.Suffix.{remainders, keeps_pronoun}
use Rattle.strips.specs.Prefix.{least_after, after, leaves}
use Rattle.origin.specs.Decisions.{decision_of}
use Rattle.origin.specs.declared.OriginDecision.{OriginDecision}
use Rattle.origin.proofs.Alike.{decision_alike}
use Rattle.decomposition.specs.Strips.{is_word, label_row, least_root, is_kept, left_of, is_taken, first_taken, Stage, taken, strip_row, strip_rows, no_front, front_at, leaves_word, first_front}
use Rattle.decomposition.specs.Parts.{prefixes_of, parts_of, root_text, whole_stage, behind_front, of_stage, decomposed_of, morpheme_of}
use Rattle.decomposition.specs.declared.fronts.Front.{Front}
use Rattle.decomposition.specs.declared.Parts.{Parts}
use Rattle.decomposition.proofs.Meant.{decomposed_root}
use Rattle.roots.specs.Lists.{once}
use Rattle.roots.specs.Candidates.{score_by, candidate_by, kept_of, kept_all, parts_among, under_row, under_rows, one_suffix, bare, under_form, under_forms, offers, candidates}
use Rattle.roots.specs.declared.RootCandidate.{RootCandidate}
use Rattle.roots.proofs.Meant.{AllMeant, suffix_meant, bare_meant}
use Rattle.paths.specs.Questions.{Part}
use Rattle.paths.specs.Recomposed.{All}
use Rattle.paths.proofs.Own.{whole_part, back-part}
use Rattle.paths.proofs.Origins.{remainder_run}

-- What holds of every row of a table.

all_at : {A : Type 0} (P : A → Type 0) (d : A) (xs : List A) → ((k : ℕ) → k < length xs → P (get_or xs k d)) → All P xs
all_at P d [] h = tt
all_at P d (x ∷ xs) h = (h 0 (omega arith), all_at P d xs (λ k l. h (suc k) (omega arith)))

all_of : {A : Type 0} (P : A → Type 0) (xs : List A) → ((x : A) → Memᴰ x xs → P x) → All P xs
all_of P [] h = tt
all_of P (x ∷ xs) h = (h x (Memᴰ.head refl), all_of P xs (λ y m. h y (Memᴰ.tail m)))

all_member : {A : Type 0} (P : A → Type 0) (xs : List A) {x : A} → All P xs → Memᴰ x xs → P x
all_member P [] a m = absurd (Memᴰ.not-nil m)
all_member P (y ∷ xs) a (Memᴰ.head e) = subst P (sym e) a.0
all_member P (y ∷ xs) a (Memᴰ.tail m) = all_member P xs a.1 m

all_append : {A : Type 0} (P : A → Type 0) (xs ys : List A) → All P xs → All P ys → All P (xs ++ ys)
all_append P [] ys a b = b
all_append P (x ∷ xs) ys a b = (a.0, all_append P xs ys a.1 b)

abbrev Texts : List (List ℕ) → Type 0
Texts = All (λ (t : List ℕ). is_utf8 t ≡ true)

suffix-texts : Texts suffixes
suffix-texts = all_at (λ (t : List ℕ). is_utf8 t ≡ true) [] suffixes (λ k h. (suffix_text k (subst (λ (n : ℕ). k < n) suffix-count h)).utf8)

form_texts : Texts prefix_forms
form_texts = all_at (λ (t : List ℕ). is_utf8 t ≡ true) [] prefix_forms (λ k h. (prefix_form_text k (subst (λ (n : ℕ). k < n) prefix_form_count h)).utf8)

strip_texts : Texts strip_suffixes
strip_texts = all_at (λ (t : List ℕ). is_utf8 t ≡ true) [] strip_suffixes (λ k h. (strip_suffix_text k (subst (λ (n : ℕ). k < n) strip_suffix_count h)).utf8)

module _ (ask ask' : Ask) (w : List ℕ) (utf8 : is_utf8 w ≡ true) (agree : (p : List ℕ) → Part w p → ask 0x77 p ≡ ask' 0x77 p) where
  letters_same : (p : List ℕ) → Part w p → letters_by ask p ≡ letters_by ask' p
  letters_same p t = ap letters_told (agree p t)

  word_same : (p : List ℕ) → Part w p → is_word ask p ≡ is_word ask' p
  unfolding is_word
  word_same p t = ap (λ (r : Reply). (letters_told r).word) (agree p t)

  -- Origin: the word's own letters and those of its remainders.

  pub decision_same : (root : List ℕ) → Part w root → decision_of ask root ≡ decision_of ask' root
  decision_same root t =
      decision_alike ask ask' root (agree root t)
      (λ suffix r m n. agree r (remainder_run w root suffix t (all_member (λ (x : List ℕ). is_utf8 x ≡ true) strip_suffixes strip_texts m) r n).part)

  -- Suffix rows, one after the other.

  left_same : (piece suffix : List ℕ) → Part w piece → left_of ask piece suffix ≡ left_of ask' piece suffix
  unfolding left_of is_kept
  left_same piece suffix t =
      ap (λ (r : Reply). pick (keeps_pronoun (letters_told r).pronoun (letters_told r).spelled suffix) [] (remainders piece suffix)) (agree piece t)

  left-parts : (piece suffix : List ℕ) → Part w piece → is_utf8 suffix ≡ true → All (Part w) (left_of ask piece suffix)
  unfolding left_of
  left-parts piece suffix t u = by (is_kept ask piece suffix)
    where
      by : (b : Bool) → All (Part w) (pick b [] (remainders piece suffix))
      by true = tt
      by false = all_of (Part w) (remainders piece suffix) (λ r m. (remainder_run w piece suffix t u r m).part)

  taken_same : (least : ℕ) (rs : List (List ℕ)) → All (Part w) rs → first_taken ask least rs ≡ first_taken ask' least rs
  unfolding is_taken
  taken_same least [] a = refl
  taken_same least (r ∷ rs) a =
      ap₂ (λ (b : Bool) (l : List (List ℕ)). pick (leb least (chars r) && b) (r ∷ []) l) (word_same r a.0) (taken_same least rs a.1)

  taken-parts : (least : ℕ) (rs : List (List ℕ)) → All (Part w) rs → All (Part w) (first_taken ask least rs)
  taken-parts least [] a = tt
  taken-parts least (r ∷ rs) a = by (is_taken ask least r) (taken-parts least rs a.1)
    where
      by : (b : Bool) → All (Part w) (first_taken ask least rs) → All (Part w) (pick b (r ∷ []) (first_taken ask least rs))
      by true m = (a.0, tt)
      by false m = m

  taken-part : (k : ℕ) (rs : List (List ℕ)) (s : Stage) → Part w s.piece → All (Part w) rs → Part w (taken k rs s).piece
  taken-part k [] s t a = t
  taken-part k (r ∷ rs) s t a = a.0

  row_same : (least k : ℕ) (suffix : List ℕ) (s : Stage) → is_utf8 suffix ≡ true → Part w s.piece
      → strip_row ask least k suffix s ≡ strip_row ask' least k suffix s
  unfolding strip_row
  row_same least k suffix s u t =
      ap (λ (l : List (List ℕ)). taken k l s)
      (taken_same least (left_of ask s.piece suffix) (left-parts s.piece suffix t u) ∙ ap (first_taken ask' least) (left_same s.piece suffix t))

  row-part : (least k : ℕ) (suffix : List ℕ) (s : Stage) → is_utf8 suffix ≡ true → Part w s.piece → Part w (strip_row ask least k suffix s).piece
  unfolding strip_row
  row-part least k suffix s u t =
      taken-part k (first_taken ask least (left_of ask s.piece suffix)) s t
      (taken-parts least (left_of ask s.piece suffix) (left-parts s.piece suffix t u))

  rows_same : (least k : ℕ) (rows : List (List ℕ)) (s : Stage) → Texts rows → Part w s.piece
      → strip_rows ask least k rows s ≡ strip_rows ask' least k rows s
  rows_same least k [] s a t = refl
  rows_same least k (suffix ∷ rows) s a t =
      rows_same least (suc k) rows (strip_row ask least k suffix s) a.1 (row-part least k suffix s a.0 t)
      ∙ ap (strip_rows ask' least (suc k) rows) (row_same least k suffix s a.0 t)

  rows-part : (least k : ℕ) (rows : List (List ℕ)) (s : Stage) → Texts rows → Part w s.piece → Part w (strip_rows ask least k rows s).piece
  rows-part least k [] s a t = t
  rows-part least k (suffix ∷ rows) s a t = rows-part least (suc k) rows (strip_row ask least k suffix s) a.1 (row-part least k suffix s a.0 t)

  -- A prefix row.

  after-part : (form : List ℕ) → is_utf8 form ≡ true → leaves w form ≡ true → Part w (after w form)
  unfolding leaves
  after-part form u e =
      back-part w w form (after w form) (sym (begins-front form w (and_left (begins_with form w) (leb (least_after form) (chars (after w form))) e))) u
      (whole_part w utf8)

  leaves_same : (form : List ℕ) → is_utf8 form ≡ true → leaves_word ask w form ≡ leaves_word ask' w form
  unfolding leaves_word
  leaves_same form u = by (leaves w form) refl
    where
      by : (b : Bool) → leaves w form ≡ b → (b && is_word ask (after w form)) ≡ (b && is_word ask' (after w form))
      by true e = word_same (after w form) (after-part form u e)
      by false e = refl

  front_same : (k : ℕ) (forms : List (List ℕ)) → Texts forms → first_front ask w k forms ≡ first_front ask' w k forms
  front_same k [] a = refl
  front_same k (form ∷ forms) a =
      ap₂ (λ (b : Bool) (f : Front). pick b (front_at k (length form)) f) (leaves_same form a.0) (front_same (suc k) forms a.1)

  word-leaves : (form : List ℕ) → leaves_word ask w form ≡ true → leaves w form ≡ true
  unfolding leaves_word
  word-leaves form e = and_left (leaves w form) (is_word ask (after w form)) e

  behind-part : (k : ℕ) (forms : List (List ℕ)) → Texts forms → Part w (drop (first_front ask w k forms).from w)
  behind-part k [] a = whole_part w utf8
  behind-part k (form ∷ forms) a = by (leaves_word ask w form) refl (behind-part (suc k) forms a.1)
    where
      by : (b : Bool) → leaves_word ask w form ≡ b → Part w (drop (first_front ask w (suc k) forms).from w)
          → Part w (drop (pick b (front_at k (length form)) (first_front ask w (suc k) forms)).from w)
      by true e t = after-part form a.0 (word-leaves form e)
      by false e t = t

  -- Decomposition.

  behind_same : (f : Front) → Part w (drop f.from w) → behind_front ask w f ≡ behind_front ask' w f
  unfolding behind_front
  behind_same f t = rows_same (least_root f.prefix) 0 suffixes (whole_stage (drop f.from w)) suffix-texts t

  pub decomposed_same : decomposed_of ask w ≡ decomposed_of ask' w
  unfolding decomposed_of
  decomposed_same =
      ap (of_stage (first_front ask w 0 prefix_forms)) (behind_same (first_front ask w 0 prefix_forms) (behind-part 0 prefix_forms form_texts))
      ∙ ap (λ (f : Front). of_stage f (behind_front ask' w f)) (front_same 0 prefix_forms form_texts)

  pub morpheme_same : morpheme_of ask w ≡ morpheme_of ask' w
  unfolding morpheme_of
  morpheme_same =
      ap₂ (λ (p : Parts) (d : OriginDecision). record { parts = p; origin = d.origin }) decomposed_same (decision_same w (whole_part w utf8))

  -- Root candidates: what is offered, each root a part of the word.

  under_row_same : (f : Front) (piece : List ℕ) (k : ℕ) (suffix : List ℕ) → Part w piece → under_row ask f piece k suffix ≡ under_row ask' f piece k suffix
  unfolding under_row
  under_row_same f piece k suffix t = ap (parts_among (least_root f.prefix) f (label_row k ∷ [])) (left_same piece suffix t)

  under_rows_same : (f : Front) (piece : List ℕ) (k : ℕ) (rows : List (List ℕ)) → Part w piece → under_rows ask f piece k rows ≡ under_rows ask' f piece k rows
  under_rows_same f piece k [] t = refl
  under_rows_same f piece k (suffix ∷ rows) t =
      ap₂ (λ (a b : List Parts). a ++ b) (under_row_same f piece k suffix t) (under_rows_same f piece (suc k) rows t)

  one_same : (f : Front) → Part w (drop f.from w) → one_suffix ask w f ≡ one_suffix ask' w f
  unfolding one_suffix
  one_same f t = under_rows_same f (drop f.from w) 0 suffixes t

  form_same : (k : ℕ) (form : List ℕ) → is_utf8 form ≡ true → under_form ask w k form ≡ under_form ask' w k form
  unfolding under_form
  form_same k form u = by (leaves w form) refl
    where
      by : (b : Bool) → leaves w form ≡ b → pick b (bare w (front_at k (length form)) ∷ one_suffix ask w (front_at k (length form))) []
          ≡ pick b (bare w (front_at k (length form)) ∷ one_suffix ask' w (front_at k (length form))) []
      by true e = ap (λ (l : List Parts). bare w (front_at k (length form)) ∷ l) (one_same (front_at k (length form)) (after-part form u e))
      by false e = refl

  forms_same : (k : ℕ) (forms : List (List ℕ)) → Texts forms → under_forms ask w k forms ≡ under_forms ask' w k forms
  forms_same k [] a = refl
  forms_same k (form ∷ forms) a = ap₂ (λ (x y : List Parts). x ++ y) (form_same k form a.0) (forms_same (suc k) forms a.1)

  offers_same : offers ask w ≡ offers ask' w
  unfolding offers
  offers_same =
      ap₂ (λ (p : Parts) (ps : List Parts). bare w no_front ∷ p ∷ ps) decomposed_same
      (ap₂ (λ (x y : List Parts). x ++ y) (one_same no_front (whole_part w utf8)) (forms_same 0 prefix_forms form_texts))

  -- the root of the parts is a part of the word
  abbrev Rooted : Parts → Type 0
  Rooted p = Part w (root_text w p)

  among_rooted : (least : ℕ) (f : Front) (labels : List ℕ) (rs : List (List ℕ)) → All (Part w) rs → AllMeant w f labels rs → All Rooted (parts_among least f labels rs)
  among_rooted least f labels [] a m = tt
  among_rooted least f labels (r ∷ rs) a m = by (leb least (chars r)) (among_rooted least f labels rs a.1 m.1)
    where
      by : (b : Bool) → All Rooted (parts_among least f labels rs) → All Rooted (pick b (parts_of f r labels ∷ []) [] ++ parts_among least f labels rs)
      by true n = (subst (Part w) (sym m.0) a.0, n)
      by false n = n

  module _ (f : Front) (h : f.from ≤ length w) (t : Part w (drop f.from w)) where
    under_rooted : (k : ℕ) (rows : List (List ℕ)) → Texts rows → All Rooted (under_rows ask f (drop f.from w) k rows)
    unfolding under_row
    under_rooted k [] a = tt
    under_rooted k (suffix ∷ rows) a =
        all_append Rooted (under_row ask f (drop f.from w) k suffix) (under_rows ask f (drop f.from w) (suc k) rows)
        (among_rooted (least_root f.prefix) f (label_row k ∷ []) (left_of ask (drop f.from w) suffix)
        (left-parts (drop f.from w) suffix t a.0) (suffix_meant w f h ask k suffix))
        (under_rooted (suc k) rows a.1)

    one_rooted : All Rooted (one_suffix ask w f)
    unfolding one_suffix
    one_rooted = under_rooted 0 suffixes suffix-texts

    bare_rooted : Rooted (bare w f)
    bare_rooted = subst (Part w) (sym (bare_meant w f h)) t

  form-inside : (form : List ℕ) → leaves w form ≡ true → length form ≤ length w
  unfolding leaves
  form-inside form e =
      let p = begins-front form w (and_left (begins_with form w) (leb (least_after form) (chars (after w form))) e) in
      let n = ap (length {A = ℕ}) p ∙ length-append form (drop (length form) w) in
      omega arith

  form_rooted : (k : ℕ) (form : List ℕ) → is_utf8 form ≡ true → All Rooted (under_form ask w k form)
  unfolding under_form
  form_rooted k form u = by (leaves w form) refl
    where
      by : (b : Bool) → leaves w form ≡ b → All Rooted (pick b (bare w (front_at k (length form)) ∷ one_suffix ask w (front_at k (length form))) [])
      by true e =
          let h = form-inside form e in
          let t = after-part form u e in
          (bare_rooted (front_at k (length form)) h t, one_rooted (front_at k (length form)) h t)
      by false e = tt

  forms_rooted : (k : ℕ) (forms : List (List ℕ)) → Texts forms → All Rooted (under_forms ask w k forms)
  forms_rooted k [] a = tt
  forms_rooted k (form ∷ forms) a =
      all_append Rooted (under_form ask w k form) (under_forms ask w (suc k) forms) (form_rooted k form a.0) (forms_rooted (suc k) forms a.1)

  decomposed_rooted : Rooted (decomposed_of ask w)
  unfolding behind_front
  decomposed_rooted =
      let f = first_front ask w 0 prefix_forms in
      subst (Part w) (sym (decomposed_root ask w))
      (rows-part (least_root f.prefix) 0 suffixes (whole_stage (drop f.from w)) suffix-texts (behind-part 0 prefix_forms form_texts))

  offers_rooted : All Rooted (offers ask w)
  unfolding offers
  offers_rooted =
      let t = whole_part w utf8 in (
        bare_rooted no_front (omega arith) t,
        (
          decomposed_rooted,
          all_append Rooted (one_suffix ask w no_front) (under_forms ask w 0 prefix_forms) (one_rooted no_front (omega arith) t) (forms_rooted 0 prefix_forms form_texts),
        ),
      )

  -- what is kept of it

  kept_same : (xs : List RootCandidate) (p : Parts) → Rooted p → kept_of ask w xs p ≡ kept_of ask' w xs p
  unfolding kept_of candidate_by
  kept_same xs p t =
      ap₂ (λ (d : OriginDecision) (l : Letters). pick (is_known l) (once w (record {
        score = score_by (chars w) l (length (prefixes_of p.prefix)) p.suffix_count;
        parts = p;
        origin = d.origin;
        known_word = l.word;
        known_headword = l.head;
      }) xs) xs) (decision_same (root_text w p) t) (letters_same (root_text w p) t)

  kept_all_same : (xs : List RootCandidate) (ps : List Parts) → All Rooted ps → kept_all ask w xs ps ≡ kept_all ask' w xs ps
  unfolding kept_all
  kept_all_same xs [] a = refl
  kept_all_same xs (p ∷ ps) a =
      kept_all_same (kept_of ask w xs p) ps a.1 ∙ ap (λ (ys : List RootCandidate). kept_all ask' w ys ps) (kept_same xs p a.0)

  pub candidates_same : candidates ask w ≡ candidates ask' w
  unfolding candidates
  candidates_same = kept_all_same [] (offers ask w) offers_rooted ∙ ap (kept_all ask' w []) offers_same
