use Rattle.std.proofs.Common.{◌≡◌, ◌∙◌, [], ℕ, List, get_or, refl, subst}
use Rattle.std.specs.Prelude.{Contains}
use Rattle.std.proofs.lemmas.List.{get_or_default}
use Rattle.cil_index.proofs.MembershipLemmas.{noted_at, pushed_is}
use Rattle.cil_index.proofs.memberships.add_to.Goals as goal

pub push-requires : goal.push-requires
push-requires c =
    let at : c.index_mut.result.now ≡ get_or c.grow.new.lists.items c.args.of_type [] = c.index_mut.ensures.value ∙ get_or_default c.grow.new.lists.items c.args.of_type _ [] c.in_ok-grow.ensures.there in
    λ n has. c.requires c.args.of_type n (subst (λ (l : List ℕ). Contains l n) (at ∙ c.in_ok-grow.ensures.same c.args.of_type) has)

pub returns : goal.returns
returns c =
    let at : c.index_mut.result.now ≡ get_or c.grow.new.lists.items c.args.of_type [] = c.index_mut.ensures.value ∙ get_or_default c.grow.new.lists.items c.args.of_type _ [] c.in_ok-grow.ensures.there in
    noted_at c.args.lists.now.items c.grow.new.lists.items _ c.args.of_type c.args.number c.push.new.self c.in_ok-grow.ensures.same c.in_ok-grow.ensures.there refl
    (pushed_is (get_or c.grow.new.lists.items c.args.of_type []) _ c.push.new.self c.args.number at c.in_ok-push.ensures)
