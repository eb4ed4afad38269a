use Rattle.std.specs.Prelude.{Some, slice_get}
use Rattle.std.proofs.Common.{◌≡◌, ◌∙◌, ◌+◌, ◌<◌, ℕ, List, ap, get_or, length, set, subst, sym}
use Rattle.std.proofs.lemmas.Option.{slice_get_read}
use Rattle.cil_names.specs.declared.entry.Entry.{Entry}
use Rattle.cil_names.specs.Entries.{is_in}
use Rattle.cil_classes.specs.ClassRows.{AreClassEntries}
use Rattle.cil_classes.proofs.ClassRowLemmas.{class_within, not_noted, noted}
use Rattle.cil_classes.proofs.rows.note_class.Goals as goal

pub returns-then-not-is_declared_as-clause-noted : goal.returns-then-not-is_declared_as-clause-noted
returns-then-not-is_declared_as-clause-noted c =
    let at : slice_get c.args.lookup.now.names.now c.args.d ≡ Some c.index-entries-d.result =
    subst (λ (es : List Entry). slice_get es c.args.d ≡ Some c.index-entries-d.result) c.entries.ensures.value
    (slice_get_read c.entries.result.now (length c.args.lookup.now.names.now) c.args.d c.index-entries-d.result (sym (ap length c.entries.ensures.value)) c.requires.within c.index-entries-d.is) in
    not_noted c.args.lookup.now.namespaces.now c.args.lookup.now.names.now (is_in c.args.lookup.now.enabled.now) c.args.numbering.now.sections c.args.numbering.now.numbers.items
    c.requires.numbers c.requires.apart c.args.d c.index-entries-d.result at c.args.places.now.items (sym c.is_declared_as.ensures ∙ c.if-not-is_declared_as.true)

pub index_mut-requires : goal.index_mut-requires
index_mut-requires c =
    let at : slice_get c.args.lookup.now.names.now c.args.d ≡ Some c.index-entries-d.result =
    subst (λ (es : List Entry). slice_get es c.args.d ≡ Some c.index-entries-d.result) c.entries.ensures.value
    (slice_get_read c.entries.result.now (length c.args.lookup.now.names.now) c.args.d c.index-entries-d.result (sym (ap length c.entries.ensures.value)) c.requires.within c.index-entries-d.is) in
    let number : c.number_at-number.result ≡ get_or c.args.numbering.now.numbers.items c.args.d 0 = c.number_at-number.ensures ∙ ap (λ (l : List ℕ). get_or l c.args.d 0) c.as_slice.ensures.value in
    let h : c.number_at-number.result < length c.args.places.now.items =
    subst (λ (j : ℕ). j < length c.args.places.now.items) (sym number)
    (class_within c.args.lookup.now.namespaces.now c.args.lookup.now.names.now (is_in c.args.lookup.now.enabled.now) c.args.numbering.now.sections c.args.numbering.now.numbers.items
    c.requires.numbers c.args.places.now.items c.args.d c.index-entries-d.result at (sym c.is_declared_as.ensures ∙ c.if-not-is_declared_as.false) c.requires.len) in
    subst (λ (n : ℕ). c.number_at-number.result < n) (sym c.args.places.now.ok.0) h

pub returns-clause-noted : goal.returns-clause-noted
returns-clause-noted c =
    let at : slice_get c.args.lookup.now.names.now c.args.d ≡ Some c.index-entries-d.result =
    subst (λ (es : List Entry). slice_get es c.args.d ≡ Some c.index-entries-d.result) c.entries.ensures.value
    (slice_get_read c.entries.result.now (length c.args.lookup.now.names.now) c.args.d c.index-entries-d.result (sym (ap length c.entries.ensures.value)) c.requires.within c.index-entries-d.is) in
    let number : c.number_at-number.result ≡ get_or c.args.numbering.now.numbers.items c.args.d 0 = c.number_at-number.ensures ∙ ap (λ (l : List ℕ). get_or l c.args.d 0) c.as_slice.ensures.value in
    λ so.
    subst (λ (j : ℕ). AreClassEntries c.args.lookup.now.names.now (is_in c.args.lookup.now.enabled.now) c.args.numbering.now.numbers.items (c.args.d + 1) (set c.args.places.now.items j c.args.d)) (sym number)
    (noted c.args.lookup.now.namespaces.now c.args.lookup.now.names.now (is_in c.args.lookup.now.enabled.now) c.args.numbering.now.sections c.args.numbering.now.numbers.items
    c.requires.numbers c.requires.apart c.args.d c.index-entries-d.result at c.args.places.now.items c.requires.len (sym c.is_declared_as.ensures ∙ c.if-not-is_declared_as.false) so)
