-- The look-ups by the parts of statements are those of the statements themselves.
use Rattle.std.specs.Prelude.{Option, Some, None, cond, is_some, map, count_by, sum_by, not}
use Rattle.std.specs.List.{flat_map}
use Rattle.std.specs.Option.{option_map_or}
use Rattle.std.proofs.Common.{◌≡◌, ℕ, ◌+◌, ◌<◌, Bool, true, false, ◌&&◌, List, [], ◌∷◌, length, take, refl, sym, ap, ◌∙◌, arith}
use Rattle.std.proofs.lemmas.List.Sums.{sum_by-cons}
use Rattle.cil_base.specs.Counts.{count_append, count_cons, count_flat}
use Rattle.cil_syntax.specs.declared.kind.Sign.{Sign}
use Rattle.cil_faults.specs.Namespaces.{Namespace}
use Rattle.cil_syntax.specs.Scopes.{ScopedWord, asked, spaces_asked}
use Rattle.cil_blocks.specs.Namespaces.{AreNamespaces}
use Rattle.cil_blocks.specs.declared.namespaces.Space.{Space}
use Rattle.cil_macros.specs.Item.{Item, OptSet, everybody, innermost}
use Rattle.cil_macros.specs.Items.{Kept, item_at, items_in}
use Rattle.cil_macros.proofs.ItemLemmas.{items_taken}
use Rattle.cil_names.specs.declared.entry.Entry.{Entry}
use Rattle.cil_names.specs.Entries.{AreEntries, candidate, candidates_of, is_declared_at, is_declared_in, is_entry_of, listed}
use Rattle.cil_names.specs.PermissionWords.{IsAnswerFor, class_with, wanted_candidates}
use Rattle.cil_names.specs.Resolves.{Wanted, Word, Permission, has, words_of}
use Rattle.cil_names.proofs.AnswerLemmas.{by_place, known_live, unknown_gone}
use Rattle.cil_names.proofs.CandidateLemmas.{place_is}
use Rattle.cil_names.proofs.PermissionWordLemmas.{always_declared, permission_answer}
use Rattle.cil_optionals.specs.Counts.{is_lost, lookups, lost_candidates, lost_in}
use Rattle.cil_optionals.specs.PartCounts.{AreLookups, lost_among, lost_by, lost_inside, lost_of}
use Rattle.cil_optionals.specs.Parts.{ArePartsOf, Part, part_of}

-- ---- sums

module _ {X : Type 0} where
  sum_same : (f g : X → ℕ) (xs : List X) → ((x : X) → f x ≡ g x) → sum_by f xs ≡ sum_by g xs
  sum_same f g xs e = ap (λ h. sum_by h xs) (λ i x. e x i)

  sum_map : {Y : Type 0} (f : Y → ℕ) (g : X → Y) (xs : List X) → sum_by f (map g xs) ≡ sum_by (λ x. f (g x)) xs
  sum_map f g [] = refl
  sum_map f g (x ∷ xs) =
      sum_by-cons f (g x) (map g xs) ∙ ap (λ n. f (g x) + n) (sum_map f g xs) ∙ sym (sum_by-cons (λ y. f (g y)) x xs)

  one_or_none : (p : X → Bool) (x : X) → count_by p (x ∷ []) ≡ cond (p x) 1 0
  one_or_none p x = let e = count_cons p x [] in e ∙ omega arith

module _ (ss : List Space) (are : AreNamespaces ss) (xs : List Item) (es : List Entry) (entries : AreEntries ss xs es) (s : OptSet) where
  -- the entry of this number is not declared
  abbrev gone : ℕ → Bool
  gone d = not (is_declared_at s es d)

  -- ---- what a word could name

  module _ (name : List ℕ) (sign : Sign) where
    abbrev lost_there : Namespace → Bool
    lost_there n = has xs everybody name sign n && not (has xs s name sign n)

    both : (a b c : Bool) → a ≡ true → b ≡ c → not c ≡ (a && not b)
    both true b c e f = ap not (sym f)
    both false b c e f = absurd (let g : false ≡ true = e in cc)

    lost_entry : (n : Namespace) (d : ℕ) → candidate ss es name sign n ≡ Some d → gone d ≡ lost_there n
    lost_entry n d e =
        let (x, at, fits) = place_is (is_entry_of ss name sign n) es d e in
        both (has xs everybody name sign n) (has xs s name sign n) (is_declared_at s es d)
        (known_live ss are xs es entries everybody name sign n d e ∙ ap (λ o. option_map_or (is_declared_in everybody) o false) at ∙ entries.used d x at)
        (known_live ss are xs es entries s name sign n d e)

    lost_here : (n : Namespace) (o : Option ℕ) → candidate ss es name sign n ≡ o → count_by gone (listed o) ≡ cond (lost_there n) 1 0
    lost_here n None e = sym (ap (λ b. cond (b && not (has xs s name sign n)) 1 0) (unknown_gone ss are xs es entries everybody name sign n e))
    lost_here n (Some d) e = one_or_none gone d ∙ ap (λ b. cond b 1 0) (lost_entry n d e)

    lost_over : (ns : List Namespace) → count_by gone (flat_map (λ n. listed (candidate ss es name sign n)) ns) ≡ count_by lost_there ns
    lost_over ns = count_flat gone (λ n. listed (candidate ss es name sign n)) (λ n. cond (lost_there n) 1 0) ns (λ n c. lost_here n (candidate ss es name sign n) refl)

  lost_word : (w : ScopedWord) → count_by gone (candidates_of ss es w) ≡ lost_candidates xs s (Word w)
  unfolding candidates_of
  lost_word w = lost_over (asked w.bytes).name w.sign (spaces_asked (asked w.bytes) w.scope)

  -- a class with a permission is always declared
  class_stays : (c p : ScopedWord) (o : Option ℕ) → IsAnswerFor ss xs es s (Permission c p) o → count_by gone (listed o) ≡ 0
  class_stays c p None none = refl
  class_stays c p (Some d) (named, t) =
      one_or_none gone d
      ∙ ap (λ b. cond (not b) 1 0)
      (ap (λ o. option_map_or (is_declared_in s) o false) named.at ∙ always_declared s named.entry.always named.entry.rounds.items named.live)

  lost_wanted : (w : Wanted) → count_by gone (wanted_candidates ss es xs w) ≡ lost_candidates xs s w
  lost_wanted (Word w) = lost_word w
  lost_wanted (Permission c p) = class_stays c p (class_with ss es xs c p) (permission_answer ss are xs es entries s c p)

  -- ---- by flags

  abbrev flags : List Bool
  flags = map (is_declared_in s) es

  flagged : (ds : List ℕ) → lost_of flags ds ≡ count_by gone ds
  flagged ds = ap (λ (p : ℕ → Bool). count_by p ds) (λ i d. not (by_place s es d i))

  lost_words : (inside : Bool) (ws : List Wanted)
      → cond inside (lost_among flags (map (wanted_candidates ss es xs) ws)) 0 ≡ cond inside (sum_by (lost_candidates xs s) ws) 0
  lost_words false ws = refl
  lost_words true ws =
      sum_map (lost_of flags) (wanted_candidates ss es xs) ws
      ∙ sum_same (λ w. lost_of flags (wanted_candidates ss es xs w)) (lost_candidates xs s) ws (λ w. flagged (wanted_candidates ss es xs w) ∙ lost_wanted w)

  lost_part : (x : Item) → lost_inside flags (part_of ss es xs x) ≡ lost_in xs s x
  lost_part x = lost_words (is_some (innermost x)) (words_of x)

  lost_parts : (ps : List Part) → ps ≡ map (part_of ss es xs) xs → lost_by es s ps ≡ sum_by (lost_in xs s) xs
  unfolding lost_by
  lost_parts ps e =
      ap (sum_by (lost_inside flags)) e
      ∙ sum_map (lost_inside flags) (part_of ss es xs) xs
      ∙ sum_same (λ x. lost_inside flags (part_of ss es xs x)) (lost_in xs s) xs lost_part

-- the look-ups are those that belong to the set
pub lookups_are : (ss : List Space) (es : List Entry) (xs : List Item) (ps : List Part) → ArePartsOf ss es xs ps → (s : OptSet) (n : ℕ) → AreLookups xs ps es s n
    → n ≡ lookups xs s
unfolding lookups
lookups_are ss es xs ps of s n e = e ∙ ap (λ m. count_by (is_lost s) xs + m) (lost_parts ss of.namespaces xs es of.entries s ps of.parts)

-- ---- what a pass counts

-- one statement more
pub lost_more : (i : Kept) (s : OptSet) (at : ℕ) → at < length (items_in i)
    → count_by (is_lost s) (take (at + 1) (items_in i)) ≡ count_by (is_lost s) (take at (items_in i)) + cond (is_lost s (item_at i at)) 1 0
lost_more i s at within =
    ap (count_by (is_lost s)) (items_taken i at within)
    ∙ count_append (is_lost s) (take at (items_in i)) (item_at i at ∷ [])
    ∙ ap (λ n. count_by (is_lost s) (take at (items_in i)) + n) (one_or_none (is_lost s) (item_at i at))

pub lost_step : (i : Kept) (s : OptSet) (at : ℕ) → at < length (items_in i) → (b : Bool) → b ≡ is_lost s (item_at i at) → (old new : ℕ)
    → old ≡ count_by (is_lost s) (take at (items_in i)) → new ≡ old + cond b 1 0 → new ≡ count_by (is_lost s) (take (at + 1) (items_in i))
lost_step i s at within b is old new so one = one ∙ (λ j. so j + cond (is j) 1 0) ∙ sym (lost_more i s at within)

-- the sum of both counts, by flags for the entries
pub counted_so : (xs : List Item) (ps : List Part) (es : List Entry) (s : OptSet) (fs : List Bool) (a b n : ℕ) → fs ≡ map (is_declared_in s) es
    → a ≡ count_by (is_lost s) xs → b ≡ sum_by (lost_inside fs) ps → n ≡ a + b → AreLookups xs ps es s n
unfolding lost_by
counted_so xs ps es s fs a b n f e g h =
    h ∙ (λ i. e i + (g ∙ ap (λ (l : List Bool). sum_by (lost_inside l) ps) f) i)
