-- Where ranks fall, the equations of sets of categories have one solution.
use Rattle.std.proofs.Common.{◌≡◌, ℕ, zero, suc, ◌<◌, Bool, true, false, ltb, List, [], length, refl, sym, ◌∙◌, subst, inl, inr, arith}
use Rattle.std.specs.Prelude.{Contains}
use Rattle.std.proofs.lemmas.List.Elements.{Contains-append_left}
use Rattle.cil_syntax.specs.declared.kind.Kind.TheVariants as kinds
use Rattle.cil_syntax.specs.Scopes.{ScopedWord}
use Rattle.cil_syntax.specs.Terms.{Term, Terms}
use Rattle.cil_macros.specs.Item.{Item, OptSet, all_words_in, words_in}
use Rattle.cil_names.specs.Declarations.{Symbol}
use Rattle.cil_known.specs.Spaces.{names}
use Rattle.cil_levels.specs.Values.{AreValues, IsGiven, IsRanked, Values, in_value}
use Rattle.cil_levels.proofs.TermLemmas.{same_in}

same_tests : (a b : Bool) → (a ≡ true → b ≡ true) → (b ≡ true → a ≡ true) → a ≡ b
same_tests true b f g = sym (f refl)
same_tests false true f g = g refl
same_tests false false f g = refl

module _ (xs : List Item) (s : OptSet) (row : List Symbol) where
  module _ (v u : Values) (of_v : AreValues xs s row v) (of_u : AreValues xs s row u) (c : ℕ) where
    -- words that name sets with the same categories hold the same
    word_there : (w : ScopedWord) → ((b : Symbol) → names xs s kinds.CategorySet w b ≡ true → v.sets b c ≡ true → u.sets b c ≡ true) → v.has w c ≡ true → u.has w c ≡ true
    word_there w same t = (of_u.words w c).1 (elim ((of_v.words w c).0 t) [
      | inl it ↦ inl it
      | inr n ↦ inr (record { set = n.set; names_set = n.names_set; has = same n.set n.names_set n.has })
    ])

    same_span : (ts : Terms ScopedWord) → v.span ts c ≡ u.span ts c
    same_span ts = same_tests (v.span ts c) (u.span ts c) (λ t. (of_u.spans ts c).1 ((of_v.spans ts c).0 t)) (λ t. (of_v.spans ts c).1 ((of_u.spans ts c).0 t))

  -- words that name only sets with the same categories make the same value
  module _ (v u : Values) (of_v : AreValues xs s row v) (of_u : AreValues xs s row u) (c : ℕ) where
    abbrev Alike : ScopedWord → Type 0
    Alike w = (b : Symbol) → names xs s kinds.CategorySet w b ≡ true → v.sets b c ≡ u.sets b c

    same_word : (w : ScopedWord) → Alike w → v.has w c ≡ u.has w c
    same_word w same =
        same_tests (v.has w c) (u.has w c) (word_there v u of_v of_u c w (λ b n t. sym (same b n) ∙ t)) (word_there u v of_u of_v c w (λ b n t. same b n ∙ t))

    same_value : (e : Term ScopedWord) → ((w : ScopedWord) → Contains (words_in e) w → Alike w) → in_value row v e c ≡ in_value row u e c
    same_value e alike =
        same_in Alike (λ w. v.has w c) (λ w. u.has w c) (ltb c (length row)) (λ ts. v.span ts c) (λ ts. u.span ts c) same_word (λ ts h. same_span v u of_v of_u c ts) e alike

  module _ (rank : Symbol → ℕ) (ranked : IsRanked xs s rank) where
    -- what one declaration says is the same where the sets that it names have the same categories
    given_there : (v u : Values) (of_v : AreValues xs s row v) (of_u : AreValues xs s row u) (c : ℕ) (a : Symbol) → ((b : Symbol) → rank b < rank a → v.sets b c ≡ u.sets b c) → IsGiven xs s row v a c → IsGiven xs s row u a c
    unfolding all_words_in
    given_there v u of_v of_u c a below g =
        let same : in_value row v g.expression c ≡ in_value row u g.expression c =
        same_value v u of_v of_u c g.expression (λ w within b n. below b (ranked a b (record {
          item = g.item;
          at = g.at;
          name = g.name;
          declares = g.declares;
          is_a = g.is_a;
          word = w;
          within = subst (λ ts. Contains (all_words_in ts) w) (sym g.says) (Contains-append_left (words_in g.expression) [] w within);
          names_b = n;
        }))) in
        record { item = g.item; at = g.at; name = g.name; declares = g.declares; is_a = g.is_a; expression = g.expression; says = g.says; value = sym same ∙ g.value }

    module _ (v u : Values) (of_v : AreValues xs s row v) (of_u : AreValues xs s row u) (c : ℕ) where
      same_sets : (k : ℕ) (a : Symbol) → rank a < k → v.sets a c ≡ u.sets a c
      same_sets zero a l = absurd (omega (arith, l))
      same_sets (suc k) a l =
          let below : (b : Symbol) → rank b < rank a → v.sets b c ≡ u.sets b c = λ b m. same_sets k b (omega (arith, l, m)) in
          same_tests (v.sets a c) (u.sets a c)
          (λ t. (of_u.sets a c).1 (given_there v u of_v of_u c a below ((of_v.sets a c).0 t)))
          (λ t. (of_v.sets a c).1 (given_there u v of_u of_v c a (λ b m. sym (below b m)) ((of_u.sets a c).0 t)))

      pub one_value : (e : Term ScopedWord) → in_value row v e c ≡ in_value row u e c
      one_value e = same_value v u of_v of_u c e (λ w within b n. same_sets (suc (rank b)) b (omega arith))

    -- the values are equal, at each category of each word, range and set
    pub one_values : (v u : Values) → AreValues xs s row v → AreValues xs s row u → v ≡ u
    one_values v u of_v of_u = λ i. record { has = λ w c. words w c i; span = λ ts c. same_span v u of_v of_u c ts i; sets = λ a c. sets a c i } where
      sets : (a : Symbol) (c : ℕ) → v.sets a c ≡ u.sets a c
      sets a c = same_sets v u of_v of_u c (suc (rank a)) a (omega arith)

      words : (w : ScopedWord) (c : ℕ) → v.has w c ≡ u.has w c
      words w c = same_word v u of_v of_u c w (λ b n. sets b c)
