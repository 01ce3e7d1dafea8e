-- A word's readings depend on a sheet only through the word's own questions: `alike`. Who edits a sheet, or changes how it is asked,
-- cites it. Assumes nothing.
use Prim.Native.Nat.{ℕ, zero, suc, ◌+◌, ◌-◌, ◌≤◌, ◌<◌}
use native.Mathlib.Omega.{arith}
use mathlib.Core.Path.{◌≡◌, refl, sym, ap, ap₂, ◌∙◌, subst}
use mathlib.Core.Bool.{Bool, true, false}
use mathlib.Core.List.{List, [], ◌∷◌, ◌++◌}
use lib.ListN.{length, drop, get_or, take-append-drop}
use Rattle.runs.specs.Runs.{pick}
use Rattle.runs.proofs.Begins.{begins-front}
use Rattle.text.specs.Utf8.{is_utf8}
use Rattle.tables.specs.Tables.{affixes}
use Rattle.tables.proofs.Facts.{affix_text, prefix_form_text}
use Rattle.strips.specs.Suffix.{first_length, first_character}
use Rattle.strips.specs.Prefix.{prefix_remainder}
use Rattle.strips.proofs.Parts.{utf8_back}
use Rattle.strips.proofs.First.{first_utf8}
use Rattle.strips.proofs.Remainders.{plain-joined, shared-joined}
use Rattle.sheet.specs.Replies.{Reply, reply, Ask, Alike, letters_told}
use Rattle.progressive.specs.Progressive.{is_progressive}
use Rattle.lookup.specs.Answers.{kind_told}
use Rattle.ranking.specs.declared.AffixKind.{AffixKind}
use Rattle.ranking.specs.declared.Reading.{Reading}
use Rattle.ranking.specs.Scores.{score_for}
use Rattle.paths.specs.Support.{is_supported, score_of}
use Rattle.paths.specs.Chains.{all_forms, Strip, text_of, left_by, all_rows, rows_after, form_of}
use Rattle.paths.specs.Readings.{group_kind, overridden, kind_of, segment_of, prefixes_of}
use Rattle.paths.specs.Walk.{empty_chain, pushed_of, record_of, root_walk, on_left, over_forms, second_walk, stem_walk, strip_walk, rows_walk, piece_walk, word_walk}
use Rattle.paths.specs.declared.Chain.{Chain}
use Rattle.paths.proofs.Routes.{plainly, sharing}
use Rattle.paths.proofs.Members.{prefix_few, left-few}
use Rattle.paths.proofs.Left.{kept, left-says, prefix_says}
use Rattle.paths.proofs.Unique.{rows_fewer}
use Rattle.paths.specs.Questions.{Part, Run, Own, alone, kind}
use Rattle.paths.proofs.Own.{whole_part, front-part, back-part}
use Rattle.paths.proofs.Agreed.{sibling_same, progressive_same, supported_same, supported-run}

-- What is left of a part is a part.

module _ (w : List ℕ) where
  pub prefix_part : (piece : List ℕ) (row : ℕ) (left : List ℕ) → row < all_forms → Part w piece → prefix_remainder piece (form_of row) ≡ left ∷ [] → Part w left
  prefix_part piece row left h t e =
      let s = prefix_says piece (form_of row) left e in
      back-part w piece (form_of row) left (ap (λ (l : List ℕ). form_of row ++ l) s.1 ∙ sym (begins-front (form_of row) piece s.0))
      (prefix_form_text row h).utf8 t

  pub left-part : (piece : List ℕ) (x : Strip) (left : List ℕ) → x.row < all_rows → Part w piece → left_by piece x ≡ left ∷ [] → Part w left
  left-part piece x left h t e = subst (Part w) (sym (left-says piece x left e).1) (go x.is_shared)
    where
      u : is_utf8 (text_of x) ≡ true
      u = (affix_text x.row h).utf8

      go : (b : Bool) → Part w (kept b piece (text_of x))
      go true =
          front-part w piece _ (drop (first_length (text_of x)) (text_of x)) (shared-joined piece (text_of x) (left-says piece x left e).0)
          (utf8_back (first_character (text_of x)) _ (first_utf8 (text_of x) u) (ap is_utf8 (take-append-drop (first_length (text_of x)) (text_of x)) ∙ u)) t
      go false = front-part w piece _ (text_of x) (plain-joined piece (text_of x) (left-says piece x left e).0) u t

on_left_same : (f g : List ℕ → List Reading) (l : List (List ℕ)) → length l ≤ 1 → ((left : List ℕ) → l ≡ left ∷ [] → f left ≡ g left) → on_left f l ≡ on_left g l
on_left_same f g [] h e = refl
on_left_same f g (x ∷ []) h e = e x refl
on_left_same f g (x ∷ y ∷ l) h e = absurd (omega arith)

module _ (ask ask' : Ask) (w : List ℕ) (agree : (letter : ℕ) (name : List ℕ) → Own ask w letter name → ask letter name ≡ ask' letter name) (surface : ℕ) where
  score_same : (root : List ℕ) → Run w root → (i j : ℕ) → score_of ask surface root i j ≡ score_of ask' surface root i j
  unfolding score_of
  score_same root r i j =
      ap₂ (λ (t : Reply) (b : Bool).
      score_for (letters_told t).word (letters_told t).head b i j surface)
      (agree 0x77 root (alone root r)) (sibling_same ask ask' w agree root r)

  root_same : (c : Chain) (stem rows root : List ℕ) → Part w root → root_walk ask surface c stem rows root ≡ root_walk ask' surface c stem rows root
  unfolding root_walk
  root_same c stem rows root t =
      go (is_supported ask root) refl ∙ ap (λ (b : Bool). pick b (record_of ask' surface c stem rows root ∷ []) []) (supported_same ask ask' w agree root t)
    where
      go : (b : Bool) → is_supported ask root ≡ b → pick b (record_of ask surface c stem rows root ∷ []) []
          ≡ pick b (record_of ask' surface c stem rows root ∷ []) []
      go false e = refl
      go true e = ap (λ (n : ℕ). record {
        stem = length stem;
        root = length stem - length root;
        score = n;
        prefixes = (prefixes_of rows).rows;
        segments = c.segments;
        prefix_count = length rows;
        suffix_count = c.count;
      } ∷ []) (score_same root (supported-run ask ask' w agree root t e) (length rows) c.count)

  forms_same : (f g : ℕ → List ℕ → List Reading) (piece : List ℕ) → Part w piece → ((row : ℕ) (left : List ℕ) → Part w left → f row left ≡ g row left)
      → (row n : ℕ) → row + n ≤ all_forms → over_forms f piece row n ≡ over_forms g piece row n
  unfolding over_forms
  forms_same f g piece t e row zero h = refl
  forms_same f g piece t e row (suc n) h =
      ap₂ (λ (a b : List Reading). a ++ b)
      (on_left_same (f row) (g row) (prefix_remainder piece (form_of row)) (prefix_few piece (form_of row))
      (λ left q. e row left (prefix_part w piece row left (omega arith) t q)))
      (forms_same f g piece t e (suc row) n (omega arith))

  -- a root, and what its prefix rows go on with
  fronts_same : (c : Chain) (stem rows : List ℕ) (f g : ℕ → List ℕ → List Reading) → ((row : ℕ) (left : List ℕ) → Part w left → f row left ≡ g row left)
      → (piece : List ℕ) → Part w piece
      → root_walk ask surface c stem rows piece ++ pick (is_progressive ask piece) [] (over_forms f piece 0 all_forms)
      ≡ root_walk ask' surface c stem rows piece ++ pick (is_progressive ask' piece) [] (over_forms g piece 0 all_forms)
  fronts_same c stem rows f g e piece t =
      ap₂ (λ (a b : List Reading). a ++ b) (root_same c stem rows piece t)
      (ap₂ (λ (b : Bool) (l : List Reading). pick b [] l) (progressive_same ask ask' w agree piece t) (forms_same f g piece t e 0 all_forms (omega arith)))

  stem_same : (c : Chain) (stem : List ℕ) → Part w stem → stem_walk ask surface c stem ≡ stem_walk ask' surface c stem
  unfolding stem_walk second_walk
  stem_same c stem t =
      fronts_same c stem [] _ _
      (λ first left s. fronts_same c stem (first ∷ []) _ _ (λ second last r. root_same c stem (first ∷ second ∷ []) last r) left s) stem t

  kind_same : (row : ℕ) → row < all_rows → kind_of ask row ≡ kind_of ask' row
  kind_same row h = ap (λ (r : Reply). overridden (kind_told r) (group_kind row)) (agree 0x6B (get_or affixes row []) (kind row h))

  module _ (f g : Chain → ℕ → List ℕ → List Reading)
      (e : (c : Chain) (rows : ℕ) (left : List ℕ) → rows ≤ all_rows → Part w left → f c rows left ≡ g c rows left)
      (c : Chain) (piece : List ℕ) (t : Part w piece) where
    strip_same : (x : Strip) → x.row < all_rows
        → strip_walk f ask c piece x ≡ strip_walk g ask' c piece x
    strip_same x h =
        ap (λ (k : AffixKind). on_left (f (pushed_of c (record { label = x.row; kind = k; shared = x.is_shared })) (rows_after x.row)) (left_by piece x)) (kind_same x.row h)
        ∙ on_left_same _ _ (left_by piece x) (left-few piece x)
        (λ left q. e (pushed_of c (segment_of ask' x)) (rows_after x.row) left (rows_fewer x.row) (left-part w piece x left h t q))

    rows_same : (row n : ℕ) → row + n ≤ all_rows → rows_walk f ask c piece row n ≡ rows_walk g ask' c piece row n
    unfolding rows_walk
    rows_same row zero h = refl
    rows_same row (suc n) h =
        ap₂ (λ (a b : List Reading). a ++ b)
        (ap₂ (λ (a b : List Reading). a ++ b) (strip_same (plainly row) (omega arith)) (strip_same (sharing row) (omega arith)))
        (rows_same (suc row) n (omega arith))

  piece_same : (depth : ℕ) (c : Chain) (rows : ℕ) (piece : List ℕ) → rows ≤ all_rows → Part w piece
      → piece_walk depth ask surface c rows piece ≡ piece_walk depth ask' surface c rows piece
  unfolding piece_walk
  piece_same zero c rows piece h t = stem_same c piece t
  piece_same (suc depth) c rows piece h t =
      ap₂ (λ (a b : List Reading). a ++ b) (stem_same c piece t)
      (ap₂ (λ (b : Bool) (l : List Reading). pick b [] l) (progressive_same ask ask' w agree piece t)
      (rows_same (piece_walk depth ask surface) (piece_walk depth ask' surface) (piece_same depth) c piece t 0 rows (omega arith)))

-- what answers an accepted word's own questions alike gives the same readings
pub alike : (ask ask' : Ask) (w : List ℕ) → is_utf8 w ≡ true
    → ((letter : ℕ) (name : List ℕ) → Own ask w letter name → ask letter name ≡ ask' letter name)
    → (surface : ℕ) → word_walk ask surface w ≡ word_walk ask' surface w
alike ask ask' w u agree surface = piece_same ask ask' w agree surface 4 empty_chain all_rows w (omega arith) (whole_part w u)

-- so do two sheets that reply alike to them
pub sheets_alike : (s t w : List ℕ) → is_utf8 w ≡ true → ((letter : ℕ) (name : List ℕ) → Own (reply s) w letter name → Alike s t letter name)
    → (surface : ℕ) → word_walk (reply s) surface w ≡ word_walk (reply t) surface w
unfolding Alike
sheets_alike s t w u agree surface = alike (reply s) (reply t) w u agree surface
