use Rattle.std.specs.declared.alloc.Global.{Global}
use Rattle.std.specs.declared.vec.Vec.{Vec}
use Rattle.std.specs.Prelude.{reverse, option_to_list}
use Rattle.std.proofs.Common.{◌≡◌, ◌++◌, ◌∷◌, [], ◌∙◌, ap, refl, sym, arith}
use Rattle.std.proofs.lemmas.List.{append-nil, nil_from_length}
use Rattle.cil_syntax.specs.declared.term.Term as rust
use Rattle.cil_syntax.specs.declared.term.Term.TheVariants as variants
use Rattle.cil_macros.proofs.ListTermLemmas.{ended, ended_alone}
use Rattle.cil_macros.proofs.list_terms.Reading.end.Goals as goal
use Rattle.cil_macros.proofs.list_terms.Reading.end.Goals.{in-Some, in-None}

pub returns : goal.returns
returns c = λ xs m read are place.
    let turned = c.reverse.ensures.items ∙ ap (λ (v : Vec rust.Term Global). reverse v.items) c.replace-inner.ensures.value in
    let level = λ (v : Vec rust.Term Global). v.items ++ variants.Form c.args.op 0 c.reverse.new.self ∷ [] in
    elim c.match-pop.branch [
      | in-Some w ↦ ended xs m c.args.op place c.args.self.now _ c.reverse.new.self turned c.pop.new.self.items w.in-Some.terms read.0 read.1
          (c.pop.ensures.items ∙ ap (λ o. c.pop.new.self.items ++ option_to_list o) w.in-Some.is)
          (c.in_ok-push.ensures.items ∙ ap level (c.replace-inner.ensures.after ∙ w.outer-is)) refl are
      | in-None w ↦
          let none : c.args.self.now.outer.items ≡ [] = let n = w.in-None.ensures.cases.0 in let k = c.args.self.now.outer.ok.0 in nil_from_length _ (omega (arith, n, k)) in
          ended_alone xs m c.args.op place c.args.self.now _ c.reverse.new.self turned w.new-outer.result read.0 read.1 none w.new-outer.ensures.items
          (c.in_ok-push.ensures.items ∙ ap level (c.replace-inner.ensures.after ∙ w.outer-is)) (sym (append-nil c.pop.new.self.items) ∙ sym w.in-None.ensures.items ∙ none) are
    ]
