use Rattle.std.proofs.Common.{◌*◌, ◌≤◌, arith}
use Rattle.std.proofs.Math.Nat.{mul-le-mul}
use Rattle.sdf_queues.proofs.rooms.put_in.Goals as goal

pub returns-clause-few : goal.returns-clause-few
returns-clause-few c =
    let one : c.moved_by.result ≤ 67108864 =
    omega (arith, c.moved_by.ensures.small, c.from.ensures, c.requires.short) in
    let all : c.args.periods * c.moved_by.result ≤ 65536 * 67108864 = mul-le-mul c.requires.periods one in
    omega arith
