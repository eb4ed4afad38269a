use Rattle.std.specs.Prelude.{bit_or}
use Rattle.std.proofs.Common.{ap, inl, inr, length, subst, ◌+◌, ◌∙◌}
use Rattle.cil_rules.proofs.classes_lemmas.BitLemmas.{set_in_either}
use Rattle.cil_rules.specs.conditions.Bits.{is_on}
use Rattle.cil_index.specs.Found.{Hands, Leads}
use Rattle.cil_index.specs.Searched.{rules_in}
use Rattle.cil_index.proofs.CoverLemmas.{two_runs}
use Rattle.cil_index.proofs.cover.Search.by_target.Goals as goal

pub returns-clause-sound : goal.returns-clause-sound
returns-clause-sound c = λ bit set. elim ((set_in_either c.of_alone.result c.of_several.result bit).0 set) [ inl x ↦ c.of_alone.ensures.sound bit x | inr x ↦ c.of_several.ensures.sound bit x ]

pub returns-clause-all : goal.returns-clause-all
returns-clause-all c =
    subst (λ k. Hands (is_on c.args.self.now.settings.now) (rules_in c.args.self.now.searched.now) (Leads c.args.self.now.aims.now) c.args.self.now.asked.now c.args.self.now.index.now k (bit_or c.of_alone.result c.of_several.result))
    (c.behind-heading.ensures ∙ ap (λ k. length c.args.self.now.searched.now.sets.now + k) c.type_key.ensures)
    (two_runs (is_on c.args.self.now.settings.now) (rules_in c.args.self.now.searched.now) c.args.self.now.aims.now c.args.self.now.asked.now c.args.self.now.index.now c.requires.aims c.behind-heading.result c.bounds-bounds.result c.bounds-bounds.ensures
    c.first_of-alone.result c.first_of-several.result c.of_alone.result c.of_several.result c.first_of-alone.ensures.same c.first_of-several.ensures.same c.first_of-alone.ensures.below c.first_of-several.ensures.below c.of_alone.ensures.all c.of_several.ensures.all)
