use Rattle.std.proofs.Common.{◌∙◌, ap, drop, length, sym}
use Rattle.std.proofs.lemmas.List.{take_all}
use Rattle.cil_names.proofs.AskedLemmas.{all_asked_in}
use Rattle.cil_known.proofs.BehindLemmas.{behind_asked, behind_class, behind_form, behind_leaf, behind_name, behind_nothing}
use Rattle.cil_known.proofs.meanings_behind.+terms.Goals as goal

pub behind_all-loop-term-init : goal.behind_all-loop-term-init
behind_all-loop-term-init t c = λ f. behind_nothing f c.args.«module» c.args.words.now

pub behind_all-loop-term-preserved : goal.behind_all-loop-term-preserved
behind_all-loop-term-preserved t c = λ f.
    behind_asked f c.args.«module» c.args.words.now c.args.terms.now _ c.term-item.result _ _ c.loop-term-test.true c.term-item.is (c.loop-term.invariant f) (c.behind-rest.ensures f)

pub behind_all-returns : goal.behind_all-returns
behind_all-returns t c = λ f.
    c.loop-term.invariant f ∙ ap (λ ts. drop (length (all_asked_in f c.args.«module» ts)) c.args.words.now) (take_all c.loop-term.term-index c.args.terms.now c.loop-term-test.false)

pub behind-returns-in-Leaf : goal.behind-returns-in-Leaf
behind-returns-in-Leaf t c = λ f. behind_leaf f c.args.«module» c.args.words.now c.args.term.now _ _ c.in-Leaf.is c.behind_first.ensures

pub behind-returns-in-Name : goal.behind-returns-in-Name
behind-returns-in-Name t c = λ f. behind_name f c.args.«module» c.args.words.now c.args.term.now _ _ c.in-Name.is

pub behind-returns-then-is_class_list : goal.behind-returns-then-is_class_list
behind-returns-then-is_class_list t c = λ f.
    behind_class f c.args.«module» c.args.words.now c.args.term.now _ _ _ _ c.in-Form.is c.as_slice.result.now c.as_slice.ensures.value (sym c.is_class_list.ensures.list ∙ c.if-is_class_list.true)
    (c.behind_class_list.ensures f)

pub behind-returns-else-is_class_list : goal.behind-returns-else-is_class_list
behind-returns-else-is_class_list t c = λ f.
    behind_form f c.args.«module» c.args.words.now c.args.term.now _ _ _ _ c.in-Form.is c.as_slice-else-is_class_list.result.now c.as_slice-else-is_class_list.ensures.value
    (sym c.is_class_list.ensures.list ∙ c.if-is_class_list.false) (c.behind_all.ensures f)
