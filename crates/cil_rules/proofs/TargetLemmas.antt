-- What the target of a rule reaches, and the numbers of the types of a record.
use Rattle.std.specs.Prelude.{Contains, Option, Some, None, MatchOption}
use Rattle.std.specs.Ordering.{nat_cmp}
use Rattle.std.specs.declared.alloc.Global.{Global}
use Rattle.std.specs.declared.vec.Vec.{Vec}
use Rattle.std.proofs.Common.{◌≡◌, ℕ, ◌++◌, List, [], ◌∷◌, get_or, map, refl, sym, ◌∙◌, ap, subst}
use Rattle.cil_base.specs.Lists.{Lists, contains_here}
use Rattle.cil_base.specs.declared.bytes.Bytes.{Bytes}
use Rattle.cil_syntax.specs.declared.kind.Kind.{Kind}
use Rattle.cil_syntax.specs.declared.kind.Kind.TheVariants as kinds
use Rattle.cil_syntax.specs.declared.term.LookedUp.{LookedUp}
use Rattle.cil_syntax.specs.declared.term.Op.{Op}
use Rattle.cil_syntax.specs.declared.term.Op.TheVariants as ops
use Rattle.cil_syntax.specs.declared.term.Term as rust
use Rattle.cil_syntax.specs.declared.term.Term.TheVariants as variants
use Rattle.cil_syntax.specs.Said.{all_said, said_of, word_in}
use Rattle.cil_syntax.specs.Terms.{Term, Leaf, Form}
use Rattle.cil_faults.specs.Spots.{spot_at}
use Rattle.cil_syntax.proofs.SaidLemmas.{form_said, leaf_said, name_said}
use Rattle.cil_macros.specs.Item.{Item, OptSet}
use Rattle.cil_syntax.specs.Scopes.{ScopedWord}
use Rattle.cil_syntax.specs.declared.term.Word.{Word}
use Rattle.cil_classes.specs.names.Unresolved.{term_with}
use Rattle.cil_conditions.specs.known.DeclaredKnown.{Known}
use Rattle.cil_rules.specs.declared.rule.Reach.{Reach}
use Rattle.cil_rules.specs.declared.rule.Reach.TheVariants as reaches
use Rattle.cil_rules.specs.Kept.{set_named, target_named}
use Rattle.cil_rules.specs.Rule.{Target}
use Rattle.cil_rules.specs.Rule as targets
use Rattle.cil_rules.specs.Records.{HasNumber, HasTarget, IsTargetOf}
use Rattle.cil_conditions.specs.known.Known.{AreStanding, BeginWith, HasNumberFor, IsKnown, enabled_in, meant_in, set_meant, value_in}
use Rattle.cil_classes.specs.names.Declarations.{Symbol}
use Rattle.cil_conditions.specs.known.Members.{StandsFor}
use Rattle.cil_macros.proofs.FormLemmas.{across, all_across, form_across, leaf_across, name_across}
use Rattle.cil_classes.specs.names.Resolves.{Word as AWord}
use Rattle.cil_classes.proofs.names_lemmas.AskedLemmas.{leaf_asked}
use Rattle.cil_conditions.proofs.known_lemmas.StandingLemmas.{nothing_stands}

-- the numbers of the types for which a word stands are those of a record
pub types_listed : (xs : List Item) (s : OptSet) (types : List (List ℕ)) (w : ScopedWord) (numbers : List ℕ) → Lists nat_cmp (HasNumberFor xs s kinds.Type_ types w) numbers
    → Lists nat_cmp (HasNumber xs s types w) numbers
types_listed xs s types w numbers l = record {
  rising = l.rising;
  members = λ n. (
    (λ c. let h = (l.members n).0 c in record { kind = h.symbol; stands = h.stands; numbered = h.numbered }),
    (λ h. (l.members n).1 (record { symbol = h.kind; stands = h.stands; numbered = h.numbered })),
  );
}

-- a set that is not empty has a member
some_member : (numbers : List ℕ) → (numbers ≡ [] → ⊥) → (n : ℕ) × Contains numbers n
some_member [] some = absurd (some refl)
some_member (n ∷ ns) some = (n, contains_here n ns)

-- a word stands for some type where it stands for some number
pub some_type : (xs : List Item) (s : OptSet) (types : List (List ℕ)) (w : ScopedWord) (numbers : List ℕ) → Lists nat_cmp (HasNumber xs s types w) numbers → (numbers ≡ [] → ⊥)
    → (t : Symbol) × StandsFor xs s kinds.Type_ w t
some_type xs s types w numbers l some = let (n, c) = some_member numbers some in let h = (l.members n).0 c in (h.kind, h.stands)

-- what a target reaches, and the target that says so
abbrev pub IsReached : List Item → OptSet → List (List ℕ) → Term ScopedWord → Target → Type 0
IsReached xs s types t target = HasTarget xs s t × IsTargetOf xs s types t target

module _ (k : Known) (f : Word → ScopedWord) (m : ℕ) (t : rust.Term) where
  -- where the term is a word, the first meaning is that of the word
  pub word_means : (w : LookedUp) → t ≡ variants.Leaf w → (words : List (Option ℕ)) → BeginWith k f (said_of m t) words → (r : Option ℕ) → r ≡ get_or words 0 None
      → r ≡ meant_in k (f (word_in m w))
  word_means w is words begin r first =
      first
      ∙ ap (λ ws. get_or ws 0 None) begin.are
      ∙ ap (λ ls. get_or (map (value_in k) ls ++ begin.more) 0 None)
      (sym (leaf_asked f m t [] (AWord (f (word_in m w)) ∷ []) w is refl))

  is_word : (w : LookedUp) → t ≡ variants.Leaf w → term_with f m t ≡ Leaf (f (word_in m w))
  is_word w is = ap (across f) (ap (said_of m) is ∙ leaf_said m w) ∙ leaf_across f (word_in m w)

  is_form : (at : ℕ) (op : Op) (parts : Vec rust.Term Global) → t ≡ variants.Form op at parts
      → term_with f m t ≡ Form (spot_at m at) op (all_across f (all_said m parts.items))
  is_form at op parts is =
      ap (across f) (ap (said_of m) is ∙ form_said m at op parts) ∙ form_across f (spot_at m at) op (all_said m parts.items)

  module _ (xs : List Item) (names : Kind → List (List ℕ)) where
    abbrev types : List (List ℕ)
    types = names kinds.Type_

    module _ (known : IsKnown k xs names) (sets : List (List ℕ)) (standing : AreStanding k xs names kinds.Type_ sets) (words : List (Option ℕ)) (begin : BeginWith k f (said_of m t) words) (r : Option ℕ)
        (first : r ≡ get_or words 0 None) (w : LookedUp) (is : t ≡ variants.Leaf w) where
      its_set : Lists nat_cmp (HasNumberFor xs (enabled_in k) kinds.Type_ types (f (word_in m w))) (set_meant sets r)
      its_set = subst (λ q. Lists nat_cmp (HasNumberFor xs (enabled_in k) kinds.Type_ types (f (word_in m w))) (set_meant sets q)) (sym (word_means w is words begin r first)) (standing (f (word_in m w)))

      pub word_reached : (d n : ℕ) → set_named sets d ≡ set_meant sets r → (set_named sets d ≡ [] → ⊥) → n ≡ d
          → IsReached xs (enabled_in k) types (term_with f m t) (target_named sets (reaches.Types n))
      word_reached d n e some same =
          let listed = types_listed xs (enabled_in k) types (f (word_in m w)) (set_meant sets r) its_set in
          subst (λ u. IsReached xs (enabled_in k) types u (targets.Types (set_named sets n))) (sym (is_word w is)) (
            some_type xs (enabled_in k) types (f (word_in m w)) (set_meant sets r) listed (λ none. some (e ∙ none)),
            subst (Lists nat_cmp (HasNumber xs (enabled_in k) types (f (word_in m w)))) (sym (ap (set_named sets) same ∙ e)) listed,
          )

      pub word_lost : set_meant sets r ≡ [] → HasTarget xs (enabled_in k) (term_with f m t) → ⊥
      word_lost empty h =
          let reached = subst (HasTarget xs (enabled_in k)) (is_word w is) h in
          nothing_stands k xs names known kinds.Type_ refl (f (word_in m w)) (set_meant sets r) its_set empty reached.0 reached.1

    pub name_lost : (at : ℕ) (bytes : Bytes) → t ≡ variants.Name at bytes → HasTarget xs (enabled_in k) (term_with f m t) → ⊥
    name_lost at bytes is h =
        subst (HasTarget xs (enabled_in k))
        (ap (across f) (ap (said_of m) is ∙ name_said m at bytes) ∙ name_across f (spot_at m at) bytes) h

    pub form_reached : (sets : List (List ℕ)) (at : ℕ) (op : Op) (parts : Vec rust.Term Global) (r : Option Reach) → t ≡ variants.Form op at parts
        → MatchOption r (op ≡ ops.Itself → ⊥) (λ reach. (op ≡ ops.Itself) × (reach ≡ reaches.Itself))
        → MatchOption r (HasTarget xs (enabled_in k) (term_with f m t) → ⊥)
        (λ reach. HasTarget xs (enabled_in k) (term_with f m t) × IsTargetOf xs (enabled_in k) types (term_with f m t) (target_named sets reach))
    form_reached sets at op parts None is other = λ h. other (subst (HasTarget xs (enabled_in k)) (is_form at op parts is) h)
    form_reached sets at op parts (Some reach) is itself =
        subst (λ u. IsReached xs (enabled_in k) types u (target_named sets reach)) (sym (is_form at op parts is)) (itself.0, (itself.0, ap (target_named sets) itself.1))
