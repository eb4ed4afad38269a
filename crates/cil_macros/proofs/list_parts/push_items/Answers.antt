use Rattle.cil_macros.proofs.AskLemmas.{class_inside, class_joined, level_inside, level_joined, other_kind, range_inside, range_joined_by, set_inside, set_joined}
use Rattle.cil_macros.proofs.list_parts.push_items.Goals as goal

pub returns-in_ok-push_class_items-in-ClassPermissionKind-clause-joined : goal.returns-in_ok-push_class_items-in-ClassPermissionKind-clause-joined
returns-in_ok-push_class_items-in-ClassPermissionKind-clause-joined c =
    λ at. class_joined c.args.«module» c.args.items.now at c.args.kind c.in-ClassPermissionKind.is

pub returns-in_ok-push_class_items-in-ClassPermissionKind-clause-parts : goal.returns-in_ok-push_class_items-in-ClassPermissionKind-clause-parts
returns-in_ok-push_class_items-in-ClassPermissionKind-clause-parts c =
    λ at. class_inside c.args.«module» c.args.items.now at c.args.kind c.in-ClassPermissionKind.is c.args.parts.now.items c.push_class_items.new.parts.items
    c.in_ok-push_class_items-in-ClassPermissionKind.ensures

pub returns-in_ok-push_set_items-in-CategorySetKind-clause-joined : goal.returns-in_ok-push_set_items-in-CategorySetKind-clause-joined
returns-in_ok-push_set_items-in-CategorySetKind-clause-joined c =
    λ at. set_joined c.args.«module» c.args.items.now at c.args.kind c.in-CategorySetKind.is c.set_op.result (c.set_op.ensures c.args.«module» at)

pub returns-in_ok-push_set_items-in-CategorySetKind-clause-parts : goal.returns-in_ok-push_set_items-in-CategorySetKind-clause-parts
returns-in_ok-push_set_items-in-CategorySetKind-clause-parts c =
    λ at. set_inside c.args.«module» c.args.items.now at c.args.kind c.in-CategorySetKind.is c.args.parts.now.items c.push_set_items.new.parts.items
    (c.in_ok-push_set_items-in-CategorySetKind.ensures at)

pub returns-in_ok-push_level_items-in-LevelKind-clause-joined : goal.returns-in_ok-push_level_items-in-LevelKind-clause-joined
returns-in_ok-push_level_items-in-LevelKind-clause-joined c =
    λ at. level_joined c.args.«module» c.args.items.now at c.args.kind c.in-LevelKind.is

pub returns-in_ok-push_level_items-in-LevelKind-clause-parts : goal.returns-in_ok-push_level_items-in-LevelKind-clause-parts
returns-in_ok-push_level_items-in-LevelKind-clause-parts c =
    λ at. level_inside c.args.«module» c.args.items.now at c.args.kind c.in-LevelKind.is c.args.parts.now.items c.push_level_items.new.parts.items
    c.in_ok-push_level_items-in-LevelKind.ensures

pub returns-in_ok-push_range_items-in-LevelRangeKind-clause-joined : goal.returns-in_ok-push_range_items-in-LevelRangeKind-clause-joined
returns-in_ok-push_range_items-in-LevelRangeKind-clause-joined c =
    λ at. range_joined_by c.args.«module» c.args.items.now at c.args.kind c.in-LevelRangeKind.is

pub returns-in_ok-push_range_items-in-LevelRangeKind-clause-parts : goal.returns-in_ok-push_range_items-in-LevelRangeKind-clause-parts
returns-in_ok-push_range_items-in-LevelRangeKind-clause-parts c =
    λ at. range_inside c.args.«module» c.args.items.now at c.args.kind c.in-LevelRangeKind.is c.args.parts.now.items c.push_range_items.new.parts.items
    c.in_ok-push_range_items-in-LevelRangeKind.ensures

pub returns-in_default : goal.returns-in_default
returns-in_default c =
    let d = c.in_default in
    record {
      joined = λ at v e. absurd (other_kind c.args.«module» at c.args.items.now c.args.kind d.not-ClassPermissionKind d.not-CategorySetKind d.not-LevelKind d.not-LevelRangeKind v e);
      parts = λ at v e. absurd (other_kind c.args.«module» at c.args.items.now c.args.kind d.not-ClassPermissionKind d.not-CategorySetKind d.not-LevelKind d.not-LevelRangeKind v e);
    }
