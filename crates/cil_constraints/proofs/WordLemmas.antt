-- The numbers for which words stand, one word after another.
use Rattle.std.specs.Global.{Vec}
use Rattle.std.specs.Prelude.{◌↔◌, Contains, None, Option, Some, if◌then◌else◌}
use Rattle.std.specs.Ordering.{nat_cmp}
use Rattle.std.specs.List.Sorted.{IsStrictlySortedBy}
use Rattle.std.proofs.Common.{◌≡◌, ◌⊎◌, ℕ, ◌+◌, ◌<◌, ◌≤◌, Bool, false, true, List, [], ◌∷◌, ◌++◌, drop, get_or, length, map, take, refl, sym, ◌∙◌, ap, subst, inl, inr}
use Rattle.std.proofs.Math.ListN.{get_or-eq_default}
use Rattle.std.proofs.Math.Seq.{drop-append_seam}
use Rattle.std.proofs.lemmas.List.{append_assoc, append-nil, length-map, map-append, take_all, take_more}
use Rattle.std.proofs.lemmas.List.Elements.{Contains-append_left, Contains-append_right, Contains-append_cases}
use Rattle.std.proofs.lemmas.Option.{none-some, same_Some}
use Rattle.cil_base.specs.Lists.{Lists, contains_cases, contains_here, contains_none}
use Rattle.cil_base.specs.Places.{drop_at}
use Rattle.cil_base.specs.Rising.{rising_nothing}
use Rattle.cil_sets.specs.Joined.{IsJoined}
use Rattle.cil_sets.specs.declared.part.Joining.TheVariants.{Union}
use Rattle.cil_syntax.specs.declared.kind.Kind.{Kind}
use Rattle.cil_syntax.specs.declared.term.LookedUp.{LookedUp}
use Rattle.cil_syntax.specs.declared.term.Op.{Op}
use Rattle.cil_syntax.specs.declared.term.Op.TheVariants as ops
use Rattle.cil_syntax.specs.declared.term.Term as rust
use Rattle.cil_syntax.specs.declared.term.Word.{Word}
use Rattle.cil_syntax.specs.Forms.{is_class_list}
use Rattle.cil_syntax.specs.Said.{said_of, word_in}
use Rattle.cil_syntax.specs.Scopes.{ScopedWord}
use Rattle.cil_macros.specs.Item.{Item, OptSet, all_replaced}
use Rattle.cil_classes.specs.names.Resolves.{Word as AWord}
use Rattle.cil_classes.specs.names.Unresolved.{term_with, terms_with}
use Rattle.cil_classes.proofs.names_lemmas.AskedLemmas.{all_asked_in, asked_in, form_asked, leaf_asked, more_asked}
use Rattle.cil_classes.proofs.names_lemmas.UnresolvedLemmas.{scoped_form, scoped_leaf, scoped_name}
use Rattle.cil_classes.specs.known.DeclaredKnown.{Known}
use Rattle.cil_classes.specs.known.Members.{StandsFor}
use Rattle.cil_classes.specs.known.Known.{AreStanding, BeginWith, HasNumberFor, enabled_in, meant_in, set_meant, value_in, wanted_with}
use Rattle.cil_classes.proofs.known_lemmas.BehindLemmas.{behind_leaf, behind_name}
use Rattle.cil_constraints.specs.declared.step.Part.{Part}
use Rattle.cil_constraints.specs.Numbered.{HasNumberAmong}
use Rattle.cil_constraints.specs.Contexts.{kind_of}
use Rattle.cil_constraints.specs.Saying.{is_union, leaf_of, leaves, listed}
use Rattle.cil_constraints.specs.Walk.{AllBeginWith, AreAddedUpTo, AreListedAdded, AreWordsAdded, IsSetOf, IsUnited, IsWordAdded, all_meant}

-- ---- sets

pub united_set : (old other new : List ℕ) → Lists nat_cmp (λ v. IsJoined Union (Contains old v) (Contains other v)) new → IsUnited (Contains other) old new
united_set old other new l = record { rising = λ up. l.rising; members = λ n. l.members n }

-- nothing more
pub united_none : (more : ℕ → Type 0) (set : List ℕ) → ((n : ℕ) → more n → ⊥) → IsUnited more set set
united_none more set none = record { rising = λ up. up; members = λ n. (λ c. inl c, λ h. elim h [ inl c ↦ c | inr m ↦ absurd (none n m) ]) }

-- the same, said otherwise
pub united_as : (more other : ℕ → Type 0) (old new : List ℕ) → ((n : ℕ) → more n ↔ other n) → IsUnited more old new → IsUnited other old new
united_as more other old new same u = record {
  rising = u.rising;
  members = λ n. (
    λ c. elim ((u.members n).0 c) [ inl d ↦ inl d | inr m ↦ inr ((same n).0 m) ],
    λ h. (u.members n).1 (elim h [ inl d ↦ inl d | inr m ↦ inr ((same n).1 m) ]),
  );
}

-- one after another
united_both : (more other : ℕ → Type 0) (old mid new : List ℕ) → IsUnited more old mid → IsUnited other mid new → IsUnited (λ n. more n ⊎ other n) old new
united_both more other old mid new u v = record {
  rising = λ up. v.rising (u.rising up);
  members = λ n. (
    λ c. elim ((v.members n).0 c) [
      | inl d ↦ elim ((u.members n).0 d) [ inl e ↦ inl e | inr m ↦ inr (inl m) ]
      | inr m ↦ inr (inr m)
    ],
    λ h. (v.members n).1 (elim h [
      | inl e ↦ inl ((u.members n).1 (inl e))
      | inr m ↦ elim m [ inl a ↦ inl ((u.members n).1 (inr a)) | inr b ↦ inr b ]
    ]),
  );
}

-- from nothing on
united_whole : (more : ℕ → Type 0) (old new : List ℕ) → old ≡ [] → IsUnited more old new → Lists nat_cmp more new
united_whole more old new none u = record {
  rising = u.rising (subst (IsStrictlySortedBy nat_cmp) (sym none) (rising_nothing nat_cmp));
  members = λ n. (
    λ c. elim ((u.members n).0 c) [ inl d ↦ absurd (contains_none n (subst (λ l. Contains l n) none d)) | inr m ↦ m ],
    λ m. (u.members n).1 (inr m),
  );
}

-- the set of a meaning
pub none_meant : (sets : List (List ℕ)) (meaning : Option ℕ) (set : List ℕ) → meaning ≡ None → IsUnited (Contains (set_meant sets meaning)) set set
none_meant sets meaning set none = united_none _ set (λ n c. contains_none n (subst (λ o. Contains (set_meant sets o) n) none c))

pub past_meant : (sets : List (List ℕ)) (meaning : Option ℕ) (d : ℕ) (set : List ℕ) → meaning ≡ Some d → length sets ≤ d → IsUnited (Contains (set_meant sets meaning)) set set
past_meant sets meaning d set is past =
    united_none _ set (λ n c. contains_none n (subst (λ l. Contains l n) (ap (set_meant sets) is ∙ get_or-eq_default sets [] past) c))

pub one_meant : (sets : List (List ℕ)) (meaning : Option ℕ) (d : ℕ) (other old new : List ℕ) → meaning ≡ Some d → get_or sets d [] ≡ other → IsUnited (Contains other) old new
    → IsUnited (Contains (set_meant sets meaning)) old new
one_meant sets meaning d other old new is at u = subst (λ l. IsUnited (Contains l) old new) (sym (ap (set_meant sets) is ∙ at)) u

-- ---- the numbers of words

module _ (xs : List Item) (s : OptSet) (names : Kind → List (List ℕ)) (part : Part) where
  abbrev Has : List ScopedWord → ℕ → Type 0
  Has ws n = HasNumberAmong xs s names part ws n

  no_words : (n : ℕ) → Has [] n → ⊥
  no_words n h = contains_none h.among.word h.among.is_word

  of_word : (w : ScopedWord) (n : ℕ) → HasNumberFor xs s (kind_of part) (names (kind_of part)) w n ↔ Has (w ∷ []) n
  of_word w n = (
    λ h. record { symbol = h.symbol; among = record { word = w; is_word = contains_here w []; stands = h.stands }; numbered = h.numbered },
    λ h. record {
      symbol = h.symbol;
      stands = elim (contains_cases h.among.word w [] h.among.is_word) [
        | inl e ↦ subst (λ v. StandsFor xs s (kind_of part) v h.symbol) (sym e) h.among.stands
        | inr c ↦ absurd (contains_none h.among.word c)
      ];
      numbered = h.numbered;
    },
  )

  of_both : (ws vs : List ScopedWord) (n : ℕ) → (Has ws n ⊎ Has vs n) ↔ Has (ws ++ vs) n
  of_both ws vs n = (
    λ h. elim h [
      | inl a ↦ record { symbol = a.symbol; among = record { word = a.among.word; is_word = Contains-append_left ws vs a.among.word a.among.is_word; stands = a.among.stands }; numbered = a.numbered }
      | inr b ↦ record { symbol = b.symbol; among = record { word = b.among.word; is_word = Contains-append_right ws vs b.among.word b.among.is_word; stands = b.among.stands }; numbered = b.numbered }
    ],
    λ h. elim (Contains-append_cases ws vs h.among.word h.among.is_word) [
      | inl c ↦ inl (record { symbol = h.symbol; among = record { word = h.among.word; is_word = c; stands = h.among.stands }; numbered = h.numbered })
      | inr c ↦ inr (record { symbol = h.symbol; among = record { word = h.among.word; is_word = c; stands = h.among.stands }; numbered = h.numbered })
    ],
  )

  united_no_words : (set : List ℕ) → IsUnited (Has []) set set
  united_no_words set = united_none (Has []) set no_words

  united_words : (ws vs : List ScopedWord) (old mid new : List ℕ) → IsUnited (Has ws) old mid → IsUnited (Has vs) mid new → IsUnited (Has (ws ++ vs)) old new
  united_words ws vs old mid new u v = united_as _ (Has (ws ++ vs)) old new (of_both ws vs) (united_both (Has ws) (Has vs) old mid new u v)

  -- by the set that is kept for what it means
  united_word : (w : ScopedWord) (set old new : List ℕ) → Lists nat_cmp (HasNumberFor xs s (kind_of part) (names (kind_of part)) w) set → IsUnited (Contains set) old new → IsUnited (Has (w ∷ [])) old new
  united_word w set old new l u = united_as (Contains set) (Has (w ∷ [])) old new (λ n. (λ c. (of_word w n).0 ((l.members n).0 c), λ h. (l.members n).1 ((of_word w n).1 h))) u

-- ---- meanings

module _ (k : Known) (f : Word → ScopedWord) (m : ℕ) where
  pub word_means : (t : rust.Term) (w : LookedUp) → t ≡ rust.Leaf w → (words : List (Option ℕ)) → BeginWith k f (said_of m t) words → get_or words 0 None ≡ meant_in k (f (word_in m w))
  word_means t w is words begin =
      ap (λ ws. get_or ws 0 None) begin.are ∙ ap (λ ls. get_or (map (value_in k) ls ++ begin.more) 0 None) (sym (leaf_asked f m t [] (AWord (f (word_in m w)) ∷ []) w is refl))

  pub parts_begin : (t : rust.Term) (at : ℕ) (op : Op) (parts : Vec rust.Term) → t ≡ rust.Form op at parts → (items : List rust.Term) → items ≡ parts.items → is_class_list op ≡ false
      → (words : List (Option ℕ)) → BeginWith k f (said_of m t) words → AllBeginWith k f m items words
  parts_begin t at op parts is items same plain words begin = record {
    more = begin.more;
    are = begin.are ∙ ap (λ ls. map (value_in k) ls ++ begin.more) (sym (form_asked f m t [] (all_asked_in f m items) at op parts is items same plain refl));
  }

  module _ (t : rust.Term) (ts : List rust.Term) where
    all_there : all_meant k f m (t ∷ ts) ≡ map (value_in k) (asked_in f m t) ++ all_meant k f m ts
    all_there = ap (map (value_in k)) (more_asked f m t ts) ∙ map-append (value_in k) (asked_in f m t) (all_asked_in f m ts)

    module _ (words : List (Option ℕ)) (begin : AllBeginWith k f m (t ∷ ts) words) where
      there : words ≡ map (value_in k) (asked_in f m t) ++ (all_meant k f m ts ++ begin.more)
      there = begin.are ∙ ap (λ l. l ++ begin.more) all_there ∙ append_assoc (map (value_in k) (asked_in f m t)) (all_meant k f m ts) begin.more

      -- they begin with those of the first term
      pub first_begins : BeginWith k f (said_of m t) words
      first_begins = record { more = all_meant k f m ts ++ begin.more; are = there }

      -- and behind these with those of the others
      pub rest_begin : (rest : List (Option ℕ)) → rest ≡ drop (length (asked_in f m t)) words → AllBeginWith k f m ts rest
      rest_begin rest left = record {
        more = begin.more;
        are =
            left ∙ ap (drop (length (asked_in f m t))) there
            ∙ ap (λ n. drop n (map (value_in k) (asked_in f m t) ++ (all_meant k f m ts ++ begin.more))) (sym (length-map (asked_in f m t) (value_in k)))
            ∙ drop-append_seam (map (value_in k) (asked_in f m t)) (all_meant k f m ts ++ begin.more);
      }

-- ---- one term

module _ (sets : List (List ℕ)) (m : ℕ) (t : rust.Term) (words : List (Option ℕ)) where
  module _ (w : LookedUp) (is : t ≡ rust.Leaf w) (r : Option ℕ) (first : r ≡ get_or words 0 None) (old new : List ℕ) (u : IsUnited (Contains (set_meant sets r)) old new) where
    by_meaning : (k : Known) (xs : List Item) (names : Kind → List (List ℕ)) (part : Part) (f : Word → ScopedWord) → AreStanding k xs names (kind_of part) sets → BeginWith k f (said_of m t) words
        → IsUnited (HasNumberAmong xs (enabled_in k) names part (f (word_in m w) ∷ [])) old new
    by_meaning k xs names part f standing begin =
        let means : r ≡ meant_in k (f (word_in m w)) = first ∙ word_means k f m t w is words begin in
        united_word xs (enabled_in k) names part (f (word_in m w)) (set_meant sets r) old new
        (subst (λ o. Lists nat_cmp (HasNumberFor xs (enabled_in k) (kind_of part) (names (kind_of part)) (f (word_in m w))) (set_meant sets o)) (sym means) (standing (f (word_in m w)))) u

    pub leaf_added : (rest : List (Option ℕ)) → rest ≡ drop 1 words → IsWordAdded sets m t words rest old new
    leaf_added rest left = record {
      left = λ f. behind_leaf f m words t w rest is left;
      united = λ k xs names part f known standing begin.
          subst (λ u. IsUnited (HasNumberAmong xs (enabled_in k) names part (leaf_of u)) old new) (sym (scoped_leaf f [] m t w is)) (by_meaning k xs names part f standing begin);
    }

    pub leaf_listed : AreListedAdded sets m t words old new
    leaf_listed ws f says k xs names part known standing begin =
        let same : f (word_in m w) ∷ [] ≡ ws = same_Some _ _ (ap listed (sym (scoped_leaf f [] m t w is)) ∙ says) in
        subst (λ vs. IsUnited (HasNumberAmong xs (enabled_in k) names part vs) old new) same (by_meaning k xs names part f standing begin)

  pub name_added : (at : ℕ) (bytes : List ℕ) → t ≡ rust.Name at bytes → (set : List ℕ) → IsWordAdded sets m t words words set set
  name_added at bytes is set = record {
    left = λ f. behind_name f m words t at bytes is;
    united = λ k xs names part f known standing begin.
        subst (λ u. IsUnited (HasNumberAmong xs (enabled_in k) names part (leaf_of u)) set set) (sym (scoped_name f [] m t at bytes is)) (united_no_words xs (enabled_in k) names part set);
  }

  pub form_added : (at : ℕ) (op : Op) (parts : Vec rust.Term) → t ≡ rust.Form op at parts → (rest : List (Option ℕ)) → ((f : Word → ScopedWord) → rest ≡ drop (length (wanted_with f (said_of m t))) words)
      → (set : List ℕ) → IsWordAdded sets m t words rest set set
  form_added at op parts is rest left set = record {
    left = left;
    united = λ k xs names part f known standing begin.
        subst (λ u. IsUnited (HasNumberAmong xs (enabled_in k) names part (leaf_of u)) set set) (sym (scoped_form f [] m t at op parts is)) (united_no_words xs (enabled_in k) names part set);
  }

  pub name_listed : (at : ℕ) (bytes : List ℕ) → t ≡ rust.Name at bytes → (set : List ℕ) → AreListedAdded sets m t words set set
  name_listed at bytes is set ws f says = absurd (none-some ws (ap listed (sym (scoped_name f [] m t at bytes is)) ∙ says))

-- ---- several terms

module _ (f : Word → ScopedWord) (m : ℕ) where
  leaves_two : (xs : List rust.Term) (t : rust.Term) → leaves (terms_with f m (xs ++ t ∷ [])) ≡ leaves (terms_with f m xs) ++ leaf_of (term_with f m t)
  unfolding all_replaced
  leaves_two [] t = append-nil (leaf_of (term_with f m t))
  leaves_two (x ∷ xs) t =
      ap (λ w. leaf_of (term_with f m x) ++ w) (leaves_two xs t) ∙ sym (append_assoc (leaf_of (term_with f m x)) (leaves (terms_with f m xs)) (leaf_of (term_with f m t)))

  leaves_more : (xs : List rust.Term) (i : ℕ) (x : rust.Term) → i < length xs → x ≡ get_or xs i x → leaves (terms_with f m (take (i + 1) xs)) ≡ leaves (terms_with f m (take i xs)) ++ leaf_of (term_with f m x)
  leaves_more xs i x within is = ap (λ ys. leaves (terms_with f m ys)) (take_more xs i x within ∙ ap (λ z. take i xs ++ z ∷ []) (sym is)) ∙ leaves_two (take i xs) x

  leaves_none : leaves (terms_with f m []) ≡ []
  unfolding all_replaced
  leaves_none = refl

module _ (sets : List (List ℕ)) (m : ℕ) (ts : List rust.Term) (words : List (Option ℕ)) where
  pub none_yet : (set : List ℕ) → AreAddedUpTo sets m ts words words 0 set set
  none_yet set = record {
    begins = λ k f begin. begin;
    united = λ k xs names part f known standing begin.
        subst (λ ws. IsUnited (HasNumberAmong xs (enabled_in k) names part ws) set set) (sym (leaves_none f m)) (united_no_words xs (enabled_in k) names part set);
  }

  module _ (i : ℕ) (x d : rust.Term) (rest : List (Option ℕ)) (old mid : List ℕ) (within : i < length ts) (is : x ≡ get_or ts i d) (so_far : AreAddedUpTo sets m ts words rest i old mid) where
    next_begins : (k : Known) (f : Word → ScopedWord) → AllBeginWith k f m ts words → AllBeginWith k f m (x ∷ drop (i + 1) ts) rest
    next_begins k f begin = subst (λ us. AllBeginWith k f m us rest) (drop_at ts i x d within is) (so_far.begins k f begin)

    pub one_more_word : (own : x ≡ get_or ts i x) (next : List (Option ℕ)) (new : List ℕ) → IsWordAdded sets m x rest next mid new → AreAddedUpTo sets m ts words next (i + 1) old new
    one_more_word own next new one = record {
      begins = λ k f begin. rest_begin k f m x (drop (i + 1) ts) rest (next_begins k f begin) next (one.left f);
      united = λ k xs names part f known standing begin.
          subst (λ ws. IsUnited (HasNumberAmong xs (enabled_in k) names part ws) old new) (sym (leaves_more f m ts i x within own))
          (united_words xs (enabled_in k) names part (leaves (terms_with f m (take i ts))) (leaf_of (term_with f m x)) old mid new (so_far.united k xs names part f known standing begin)
          (one.united k xs names part f known standing (first_begins k f m x (drop (i + 1) ts) rest (next_begins k f begin))));
    }

  pub all_words : (i : ℕ) (rest : List (Option ℕ)) (old new : List ℕ) → length ts ≤ i → AreAddedUpTo sets m ts words rest i old new → AreWordsAdded sets m ts words old new
  all_words i rest old new over so_far = λ k xs names part f known standing begin.
      subst (λ us. IsUnited (HasNumberAmong xs (enabled_in k) names part (leaves (terms_with f m us))) old new) (take_all i ts over) (so_far.united k xs names part f known standing begin)

-- ---- a list of words

union_plain : (op : Op) → is_union op ≡ true → is_class_list op ≡ false
union_plain ops.ClassPermissions e = absurd (let f : false ≡ true = e in cc)
union_plain op e = refl

module _ (sets : List (List ℕ)) (m : ℕ) (t : rust.Term) (words : List (Option ℕ)) (at : ℕ) (op : Op) (parts : Vec rust.Term) (is : t ≡ rust.Form op at parts) (items : List rust.Term)
    (same : items ≡ parts.items) where
  form_is : (f : Word → ScopedWord) → listed (term_with f m t) ≡ (if is_union op then Some (leaves (terms_with f m items)) else None)
  form_is f = ap listed (scoped_form f [] m t at op parts is) ∙ ap (λ us. if is_union op then Some (leaves (terms_with f m us)) else None) (sym same)

  split : (ws : List ScopedWord) (b : Bool) (vs : List ScopedWord) → (if b then Some vs else None) ≡ Some ws → (b ≡ true) × (vs ≡ ws)
  split ws true vs e = (refl, same_Some _ _ e)
  split ws false vs e = absurd (none-some ws e)

  pub form_listed : (old new : List ℕ) → AreWordsAdded sets m items words old new → AreListedAdded sets m t words old new
  form_listed old new added ws f says k xs names part known standing begin =
      let both = split ws (is_union op) (leaves (terms_with f m items)) (sym (form_is f) ∙ says) in
      subst (λ vs. IsUnited (HasNumberAmong xs (enabled_in k) names part vs) old new) both.1
      (added k xs names part f known standing (parts_begin k f m t at op parts is items same (union_plain op both.0) words begin))

-- a set that had nothing before
pub whole_set : (sets : List (List ℕ)) (m : ℕ) (t : rust.Term) (words : List (Option ℕ)) (old new : List ℕ) → old ≡ [] → AreListedAdded sets m t words old new → IsSetOf sets m t words new
whole_set sets m t words old new none added ws f says k xs names part known standing begin =
    united_whole _ old new none (added ws f says k xs names part known standing begin)
