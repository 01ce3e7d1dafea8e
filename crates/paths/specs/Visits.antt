-- How much looking a word costs (document 02 (n)): how often the source's walk is entered. Each entry into the suffix walk and each
-- entry into the prefix walk counts one, repeats included. Follows `collect_suffix_group_analyses` and `collect_prefixed_analyses` as
-- they stand in the source, and says nothing of how the code here walks. Assumes nothing.
use Rattle.std.specs.Prelude.{ℕ, zero, suc, ◌+◌, Bool, true, false, List, [], ◌∷◌}
use Rattle.runs.specs.Runs.{pick}
use Rattle.tables.specs.Rows.{prefix_forms, particles, case_markers, plural_markers}
use Rattle.strips.specs.Suffix.{remainders}
use Rattle.strips.specs.Prefix.{prefix_remainder}
use Rattle.sheet.specs.Replies.{Ask}
use Rattle.progressive.specs.Progressive.{is_progressive}
use Rattle.paths.specs.Chains.{most_strips, most_prefixes}

-- what is counted for each of these texts, together
unfoldable pub total : (List ℕ → ℕ) → List (List ℕ) → ℕ
total f [] = 0
total f (t ∷ ts) = f t + total f ts

-- `collect_prefixed_analyses` at a piece, where `depth` more prefixes may be stripped: this entry, and, unless the piece is a supported
-- progressive form, those at what each row of PREFIX_FORMS leaves
unfoldable pub prefix_visits : ℕ → Ask → List ℕ → ℕ
prefix_visits zero ask piece = 1
prefix_visits (suc depth) ask piece =
    1 + pick (is_progressive ask piece) 0 (total (λ form. total (prefix_visits depth ask) (prefix_remainder piece form)) prefix_forms)

-- SUPPORT_SUFFIX_GROUPS: the texts of a group, and whether it may be stripped again
pub record Group : Type 0 where
  pub items : List (List ℕ)
  pub repeatable : Bool

abbrev pub particle_group : Group
particle_group = record { items = particles; repeatable = false }

abbrev pub case_group : Group
case_group = record { items = case_markers; repeatable = true }

abbrev pub plural_group : Group
plural_group = record { items = plural_markers; repeatable = false }

abbrev pub support_groups : List Group
support_groups = particle_group ∷ case_group ∷ plural_group ∷ []

-- an entry into the suffix walk, with the prefix walk that it begins with
unfoldable pub entry : Ask → List ℕ → ℕ
entry ask piece = 1 + prefix_visits most_prefixes ask piece

-- `collect_suffix_group_analyses` at a piece, where `depth` more suffixes may be stripped, from these groups on: this entry, and, unless
-- the piece is a supported progressive form or no group or no strip is left, those at the same piece from the next group on, and at each
-- remainder under each text of the first group: from that group again, if it may be stripped again, and from the next
unfoldable pub suffix_visits : ℕ → Ask → List Group → List ℕ → ℕ
suffix_visits depth ask [] piece = entry ask piece
suffix_visits zero ask (g ∷ gs) piece = entry ask piece
suffix_visits (suc depth) ask (g ∷ gs) piece =
    entry ask piece
    + pick (is_progressive ask piece) 0
    (suffix_visits (suc depth) ask gs piece
    + total (λ text. total (λ left. pick g.repeatable (suffix_visits depth ask (g ∷ gs) left) 0 + suffix_visits depth ask gs left) (remainders piece text)) g.items)

-- the number for a word, entered as `analyze_affixes` enters it: the empty word is not
unfoldable pub visits_of : Ask → List ℕ → ℕ
visits_of ask [] = 0
visits_of ask (b ∷ w) = suffix_visits most_strips ask support_groups (b ∷ w)
