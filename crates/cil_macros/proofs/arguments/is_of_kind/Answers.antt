use Rattle.std.proofs.Common.{◌∙◌, ap, sym}
use Rattle.cil_syntax.specs.Said.{said_of}
use Rattle.cil_macros.specs.Fits.{is_of_kind}
use Rattle.cil_macros.proofs.arguments.is_of_kind.Goals as goal

pub returns-in-TypeKind : goal.returns-in-TypeKind
returns-in-TypeKind c = λ n. c.is_word.ensures n ∙ ap (λ k. is_of_kind k (said_of n c.args.argument.now)) (sym c.in-TypeKind.is)

pub returns-in-RoleKind : goal.returns-in-RoleKind
returns-in-RoleKind c = λ n. c.is_word-in-RoleKind.ensures n ∙ ap (λ k. is_of_kind k (said_of n c.args.argument.now)) (sym c.in-RoleKind.is)

pub returns-in-UserKind : goal.returns-in-UserKind
returns-in-UserKind c = λ n. c.is_word-in-UserKind.ensures n ∙ ap (λ k. is_of_kind k (said_of n c.args.argument.now)) (sym c.in-UserKind.is)

pub returns-in-ClassKind : goal.returns-in-ClassKind
returns-in-ClassKind c = λ n. c.is_word-in-ClassKind.ensures n ∙ ap (λ k. is_of_kind k (said_of n c.args.argument.now)) (sym c.in-ClassKind.is)

pub returns-in-BooleanKind : goal.returns-in-BooleanKind
returns-in-BooleanKind c = λ n. c.is_word-in-BooleanKind.ensures n ∙ ap (λ k. is_of_kind k (said_of n c.args.argument.now)) (sym c.in-BooleanKind.is)

pub returns-in-ClassMapKind : goal.returns-in-ClassMapKind
returns-in-ClassMapKind c = λ n. c.is_word-in-ClassMapKind.ensures n ∙ ap (λ k. is_of_kind k (said_of n c.args.argument.now)) (sym c.in-ClassMapKind.is)

pub returns-in-SensitivityKind : goal.returns-in-SensitivityKind
returns-in-SensitivityKind c = λ n. c.is_word-in-SensitivityKind.ensures n ∙ ap (λ k. is_of_kind k (said_of n c.args.argument.now)) (sym c.in-SensitivityKind.is)

pub returns-in-CategoryKind : goal.returns-in-CategoryKind
returns-in-CategoryKind c = λ n. c.is_word-in-CategoryKind.ensures n ∙ ap (λ k. is_of_kind k (said_of n c.args.argument.now)) (sym c.in-CategoryKind.is)

pub returns-in-ClassPermissionKind : goal.returns-in-ClassPermissionKind
returns-in-ClassPermissionKind c = λ n. c.is_class_permission.ensures n ∙ ap (λ k. is_of_kind k (said_of n c.args.argument.now)) (sym c.in-ClassPermissionKind.is)

pub returns-in-CategorySetKind : goal.returns-in-CategorySetKind
returns-in-CategorySetKind c = λ n. c.is_set.ensures n ∙ ap (λ k. is_of_kind k (said_of n c.args.argument.now)) (sym c.in-CategorySetKind.is)

pub returns-in-LevelKind : goal.returns-in-LevelKind
returns-in-LevelKind c = λ n. c.is_level.ensures n ∙ ap (λ k. is_of_kind k (said_of n c.args.argument.now)) (sym c.in-LevelKind.is)

pub returns-in-LevelRangeKind : goal.returns-in-LevelRangeKind
returns-in-LevelRangeKind c = λ n. c.is_range.ensures n ∙ ap (λ k. is_of_kind k (said_of n c.args.argument.now)) (sym c.in-LevelRangeKind.is)

pub returns-in-NameKind : goal.returns-in-NameKind
returns-in-NameKind c = λ n. c.is_text.ensures n ∙ ap (λ k. is_of_kind k (said_of n c.args.argument.now)) (sym c.in-NameKind.is)

pub returns-in-TextKind : goal.returns-in-TextKind
returns-in-TextKind c = λ n. c.is_text-in-TextKind.ensures n ∙ ap (λ k. is_of_kind k (said_of n c.args.argument.now)) (sym c.in-TextKind.is)
