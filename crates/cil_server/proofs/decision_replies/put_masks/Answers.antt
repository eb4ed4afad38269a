use Rattle.std.specs.Prelude.{codes}
use Rattle.std.proofs.Common.{◌++◌, refl}
use Rattle.cil_server.specs.Replies.{joined, newline}
use Rattle.cil_server.proofs.StreamLemmas.{tells_both}
use Rattle.cil_server.proofs.decision_replies.put_masks.Goals as goal

pub returns : goal.returns
returns g c = λ rising.
    let names1 = c.put_names.ensures rising in
    let names2 = c.put_names-2.ensures rising in
    let names3 = c.put_names-3.ensures rising in
    let told1 = tells_both c.args.output.now c.put.new.self c.put_names.new.output ((codes "OK ")) (joined names1.names) c.put.ensures names1.told in
    let told2 = tells_both c.args.output.now c.put_names.new.output c.put-2.new.self ((codes "OK ") ++ (joined names1.names)) (codes " ") told1 c.put-2.ensures in
    let told3 = tells_both c.args.output.now c.put-2.new.self c.put_names-2.new.output ((codes "OK ") ++ (joined names1.names) ++ (codes " ")) (joined names2.names) told2 names2.told in
    let told4 = tells_both c.args.output.now c.put_names-2.new.output c.put-3.new.self ((codes "OK ") ++ (joined names1.names) ++ (codes " ") ++ (joined names2.names)) (codes " ") told3 c.put-3.ensures in
    let told5 = tells_both c.args.output.now c.put-3.new.self c.put_names-3.new.output ((codes "OK ") ++ (joined names1.names) ++ (codes " ") ++ (joined names2.names) ++ (codes " ")) (joined names3.names) told4 names3.told in
    let told6 = tells_both c.args.output.now c.put_names-3.new.output c.put-4.new.self ((codes "OK ") ++ (joined names1.names) ++ (codes " ") ++ (joined names2.names) ++ (codes " ") ++ (joined names3.names)) newline told5 c.put-4.ensures in
    record {
      reply = _;
      is_reply = record {
        allowed = names1.names;
        auditallow = names2.names;
        auditdeny = names3.names;
        are_allowed = names1.are_names;
        are_auditallow = names2.are_names;
        are_auditdeny = names3.are_names;
        is_reply = refl;
      };
      told = told6;
    }
