-- The records of statements that are the same but for the places of what they say.
use Rattle.std.specs.List.{list_all}
use Rattle.std.specs.Ordering.{nat_cmp}
use Rattle.std.proofs.Common.{◌≡◌, ℕ, List, [], refl, sym, ◌∙◌, ap, subst, inl, inr}
use Rattle.cil_base.specs.Lists.{Lists, contains_cases, contains_here, contains_none}
use Rattle.cil_syntax.specs.declared.kind.Keyword.{Keyword}
use Rattle.cil_syntax.specs.Terms.{Term, Leaf, Name, Form}
use Rattle.cil_syntax.specs.Scopes.{ScopedWord}
use Rattle.cil_macros.specs.Item.{Item, OptSet}
use Rattle.cil_macros.specs.ListTerms.{AreAlike, IsAlike}
use Rattle.cil_classes.specs.names.Declarations.{name_of}
use Rattle.cil_classes.specs.declared.row.Class.{Class}
use Rattle.cil_classes.specs.Given.{HasPair}
use Rattle.cil_classes.proofs.AlikeLemmas.{IsLike, form_alike, leaf_alike, like_back, pair_alike, rule_alike}
use Rattle.cil_rules.specs.Behind.{AreBehind}
use Rattle.cil_rules.specs.Records.{Branching, Case, CaseBy, HasNumber, HasTarget, IsPut, IsRuleOf, IsTargetOf}
use Rattle.cil_rules.specs.Rule.{Rule, Target}
use Rattle.cil_rules.specs.declared.rule.NamedRule.{NamedRule}

module _ (xs : List Item) (s : OptSet) where
  target_there : (t u : Term ScopedWord) → IsAlike t u → HasTarget xs s t → HasTarget xs s u
  target_there (Leaf w) u same has = subst (HasTarget xs s) (sym (leaf_alike w u same)) has
  target_there (Name at bytes) u same has = absurd has
  target_there (Form at op ts) u same has = let (bt, us, is, parts) = form_alike at op ts u same in subst (HasTarget xs s) (sym is) has

  module _ (types : List (List ℕ)) where
    target_alike : (t u : Term ScopedWord) (r : Target) → IsAlike t u → IsTargetOf xs s types t r → IsTargetOf xs s types u r
    target_alike (Leaf w) u r same of = subst (λ v. IsTargetOf xs s types v r) (sym (leaf_alike w u same)) of
    target_alike (Name at bytes) u r same of = absurd of
    target_alike (Form at op ts) u r same of = let (bt, us, is, parts) = form_alike at op ts u same in subst (λ v. IsTargetOf xs s types v r) (sym is) of

    module _ (classes : List Class) (how : Branching) where
      -- cases with alike terms have the same record
      rule_like : (a b : Case) → a.branch ≡ b.branch → a.source ≡ b.source → a.class_ ≡ b.class_ → IsAlike a.target b.target → IsAlike a.class_permission b.class_permission → (r : Rule)
          → IsRuleOf xs s types classes how a r → IsRuleOf xs s types classes how b r
      rule_like a b branch source class_ target class_permission r of = record {
        branch = subst (λ v. IsPut xs s how v r.branch) branch of.branch;
        source = subst (λ w. Lists nat_cmp (HasNumber xs s types w) r.source) source of.source;
        target = target_alike a.target b.target r.target target of.target;
        row = of.row;
        is_row = of.is_row;
        named = of.named ∙ ap name_of class_;
        mask = λ bit. (
          (λ set. let h = (of.mask bit).0 set in
              record {
                permission = h.permission;
                is_permission = h.is_permission;
                gives = subst (λ c. HasPair xs s b.class_permission c h.permission) class_ (pair_alike xs s a.class_permission b.class_permission a.class_ h.permission class_permission h.gives);
              }),
          (λ h. (of.mask bit).1 (record {
            permission = h.permission;
            is_permission = h.is_permission;
            gives = subst (λ c. HasPair xs s a.class_permission c h.permission) (sym class_) (pair_alike xs s b.class_permission a.class_permission b.class_ h.permission (sym class_permission) h.gives);
          })),
        );
      }

      module _ (keyword : Keyword) where
        -- each case of the one is like one of the other
        record CaseLike (y : Item) (c : Case) : Type 0 where
          pub case : Case
          pub by : CaseBy xs s keyword how y case
          pub rule : (r : Rule) → IsRuleOf xs s types classes how case r → IsRuleOf xs s types classes how c r
          pub rule_back : (r : Rule) → IsRuleOf xs s types classes how c r → IsRuleOf xs s types classes how case r

        case_like : (x y : Item) → IsLike x y → (c : Case) → CaseBy xs s keyword how x c → CaseLike y c
        case_like x y like c by =
            let (u, d, says, middle, last) = rule_alike c.source c.target c.class_permission y.args (subst (λ ts. AreAlike ts y.args) by.says like.args) in
            let other : Case = record { branch = c.branch; source = c.source; target = u; class_permission = d; class_ = c.class_ } in
            record {
              case = other;
              by = record {
                enabled = ap (list_all s) (sym like.round) ∙ by.enabled;
                is_keyword = sym like.keyword ∙ by.is_keyword;
                branch = by.branch ∙ like.branch;
                taken = by.taken;
                says = says;
                source = by.source;
                target = target_there c.target u middle by.target;
                permission = (by.permission.0, pair_alike xs s c.class_permission d c.class_ by.permission.0 last by.permission.1);
              };
              rule = rule_like other c refl refl refl (sym middle) (sym last);
              rule_back = rule_like c other refl refl refl middle last;
            }

        -- so they have the same records
        pub behind_like : (x y : Item) → IsLike y x → (named : NamedRule → Rule) (place : ℕ) (old new : List NamedRule) → AreBehind (CaseBy xs s keyword how) (IsRuleOf xs s types classes how) named y place old new
            → AreBehind (CaseBy xs s keyword how) (IsRuleOf xs s types classes how) named x place old new
        behind_like x y like named place old new b = record {
          rules = b.rules;
          behind = b.behind;
          are = record {
            each = λ z c cz by. elim (contains_cases z x [] cz) [
              | inl e ↦
                  let l = case_like x y (like_back y x like) c (subst (λ w. CaseBy xs s keyword how w c) (sym e) by) in
                  let r = b.are.each y l.case (contains_here y []) l.by in
                  (r.0, l.rule r.0 r.1, r.2)
              | inr n ↦ absurd (contains_none z n)
            ];
            only = λ r cr.
                let (z, d, cz, by, of) = b.are.only r cr in
                elim (contains_cases z y [] cz) [
                  | inl e ↦
                      let l = case_like y x like d (subst (λ w. CaseBy xs s keyword how w d) (sym e) by) in
                      (x, l.case, contains_here x [], l.by, l.rule_back r of)
                  | inr n ↦ absurd (contains_none z n)
                ];
          };
          there = b.there;
          rising = b.rising;
        }
