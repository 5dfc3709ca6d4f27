-- `hopping::channel` meets its contract. Assumes nothing.
use Prim.Native.Nat.{ℕ, ◌%◌}
use mathlib.Core.Path.{◌≡◌, ◌∙◌, ap}
use native.Mathlib.Nat.{mod-add-mod, add-mod-mod}
use native.Mathlib.Omega.{arith}
use lib.ListN.{get_or}
use Rattle.slot_spec.specs.Hopping.{hopping, channel_of}
use Rattle.slot_spec.proofs.Permutation.{hopping_permutes}
use Rattle.hopping.proofs.channel.Goals as goal

pub returns : goal.returns
unfolding channel_of
returns c =
    let wide : c.from.result ≡ c.args.channel_offset % 16 = omega arith in
    record { channel = rw wide (ap (λ (entry : ℕ). get_or hopping entry 0) (mod-add-mod c.args.asn 16 (c.args.channel_offset % 16) ∙ add-mod-mod c.args.asn c.args.channel_offset 16)); sequence = hopping_permutes }
