-- A sum by its halves, shifted: the upper half moves by less, and no bit is lost.
use Rattle.std.proofs.Common.{◌≡◌, ℕ, zero, suc, ◌-◌, ◌*◌, ◌/◌, ◌%◌, ◌^◌, ◌<◌, ◌≤◌, ℤ, pos, negsuc, ◌+ℤ◌, ◌*ℤ◌}
use Rattle.std.proofs.Common.{unsigned_abs, arith}
use Rattle.std.specs.Int.{int_shr}
use Rattle.std.proofs.lemmas.Int.{ints}

parts0 : (u : ℤ) → (r : ℕ) × ((r < 1) × (u ≡ (pos 1 *ℤ int_shr u 0) +ℤ pos r))
parts0 (pos a) = (a % 1, (omega arith, omega (arith, ints)))
parts0 (negsuc a) = (0 - a % 1, (omega arith, omega (arith, ints)))

parts1 : (u : ℤ) → (r : ℕ) × ((r < 2) × (u ≡ (pos 2 *ℤ int_shr u 1) +ℤ pos r))
parts1 (pos a) = (a % 2, (omega arith, omega (arith, ints)))
parts1 (negsuc a) = (1 - a % 2, (omega arith, omega (arith, ints)))

parts2 : (u : ℤ) → (r : ℕ) × ((r < 4) × (u ≡ (pos 4 *ℤ int_shr u 2) +ℤ pos r))
parts2 (pos a) = (a % 4, (omega arith, omega (arith, ints)))
parts2 (negsuc a) = (3 - a % 4, (omega arith, omega (arith, ints)))

parts3 : (u : ℤ) → (r : ℕ) × ((r < 8) × (u ≡ (pos 8 *ℤ int_shr u 3) +ℤ pos r))
parts3 (pos a) = (a % 8, (omega arith, omega (arith, ints)))
parts3 (negsuc a) = (7 - a % 8, (omega arith, omega (arith, ints)))

parts4 : (u : ℤ) → (r : ℕ) × ((r < 16) × (u ≡ (pos 16 *ℤ int_shr u 4) +ℤ pos r))
parts4 (pos a) = (a % 16, (omega arith, omega (arith, ints)))
parts4 (negsuc a) = (15 - a % 16, (omega arith, omega (arith, ints)))

parts5 : (u : ℤ) → (r : ℕ) × ((r < 32) × (u ≡ (pos 32 *ℤ int_shr u 5) +ℤ pos r))
parts5 (pos a) = (a % 32, (omega arith, omega (arith, ints)))
parts5 (negsuc a) = (31 - a % 32, (omega arith, omega (arith, ints)))

parts6 : (u : ℤ) → (r : ℕ) × ((r < 64) × (u ≡ (pos 64 *ℤ int_shr u 6) +ℤ pos r))
parts6 (pos a) = (a % 64, (omega arith, omega (arith, ints)))
parts6 (negsuc a) = (63 - a % 64, (omega arith, omega (arith, ints)))

parts7 : (u : ℤ) → (r : ℕ) × ((r < 128) × (u ≡ (pos 128 *ℤ int_shr u 7) +ℤ pos r))
parts7 (pos a) = (a % 128, (omega arith, omega (arith, ints)))
parts7 (negsuc a) = (127 - a % 128, (omega arith, omega (arith, ints)))

parts8 : (u : ℤ) → (r : ℕ) × ((r < 256) × (u ≡ (pos 256 *ℤ int_shr u 8) +ℤ pos r))
parts8 (pos a) = (a % 256, (omega arith, omega (arith, ints)))
parts8 (negsuc a) = (255 - a % 256, (omega arith, omega (arith, ints)))

parts9 : (u : ℤ) → (r : ℕ) × ((r < 512) × (u ≡ (pos 512 *ℤ int_shr u 9) +ℤ pos r))
parts9 (pos a) = (a % 512, (omega arith, omega (arith, ints)))
parts9 (negsuc a) = (511 - a % 512, (omega arith, omega (arith, ints)))

parts10 : (u : ℤ) → (r : ℕ) × ((r < 1024) × (u ≡ (pos 1024 *ℤ int_shr u 10) +ℤ pos r))
parts10 (pos a) = (a % 1024, (omega arith, omega (arith, ints)))
parts10 (negsuc a) = (1023 - a % 1024, (omega arith, omega (arith, ints)))

parts11 : (u : ℤ) → (r : ℕ) × ((r < 2048) × (u ≡ (pos 2048 *ℤ int_shr u 11) +ℤ pos r))
parts11 (pos a) = (a % 2048, (omega arith, omega (arith, ints)))
parts11 (negsuc a) = (2047 - a % 2048, (omega arith, omega (arith, ints)))

parts12 : (u : ℤ) → (r : ℕ) × ((r < 4096) × (u ≡ (pos 4096 *ℤ int_shr u 12) +ℤ pos r))
parts12 (pos a) = (a % 4096, (omega arith, omega (arith, ints)))
parts12 (negsuc a) = (4095 - a % 4096, (omega arith, omega (arith, ints)))

parts13 : (u : ℤ) → (r : ℕ) × ((r < 8192) × (u ≡ (pos 8192 *ℤ int_shr u 13) +ℤ pos r))
parts13 (pos a) = (a % 8192, (omega arith, omega (arith, ints)))
parts13 (negsuc a) = (8191 - a % 8192, (omega arith, omega (arith, ints)))

parts14 : (u : ℤ) → (r : ℕ) × ((r < 16384) × (u ≡ (pos 16384 *ℤ int_shr u 14) +ℤ pos r))
parts14 (pos a) = (a % 16384, (omega arith, omega (arith, ints)))
parts14 (negsuc a) = (16383 - a % 16384, (omega arith, omega (arith, ints)))

parts15 : (u : ℤ) → (r : ℕ) × ((r < 32768) × (u ≡ (pos 32768 *ℤ int_shr u 15) +ℤ pos r))
parts15 (pos a) = (a % 32768, (omega arith, omega (arith, ints)))
parts15 (negsuc a) = (32767 - a % 32768, (omega arith, omega (arith, ints)))

-- the halves of a sum, shifted by s after half of 2^s is added
abbrev pub sum_of : ℤ → ℤ → ℤ
sum_of h lo = (pos 65536 *ℤ h) +ℤ lo

pub joined : (s : ℕ) → s ≤ 15 → (h lo : ℤ) → unsigned_abs (sum_of h lo) ≤ 2147450880 * 2 ^ s →
    ((h *ℤ pos (2 ^ (16 - s))) +ℤ int_shr (lo +ℤ pos (2 ^ s / 2)) s ≡ int_shr (sum_of h lo +ℤ pos (2 ^ s / 2)) s)
    × (unsigned_abs (int_shr (sum_of h lo +ℤ pos (2 ^ s / 2)) s) ≤ 2147483647)
joined zero few h lo small =
    let a = parts0 (lo +ℤ pos 0) in
    let b = parts0 (sum_of h lo +ℤ pos 0) in
    (omega (arith, ints, a.1.0, a.1.1, b.1.0, b.1.1), omega (arith, ints, small, b.1.0, b.1.1))
joined (suc zero) few h lo small =
    let a = parts1 (lo +ℤ pos 1) in
    let b = parts1 (sum_of h lo +ℤ pos 1) in
    (omega (arith, ints, a.1.0, a.1.1, b.1.0, b.1.1), omega (arith, ints, small, b.1.0, b.1.1))
joined (suc (suc zero)) few h lo small =
    let a = parts2 (lo +ℤ pos 2) in
    let b = parts2 (sum_of h lo +ℤ pos 2) in
    (omega (arith, ints, a.1.0, a.1.1, b.1.0, b.1.1), omega (arith, ints, small, b.1.0, b.1.1))
joined (suc (suc (suc zero))) few h lo small =
    let a = parts3 (lo +ℤ pos 4) in
    let b = parts3 (sum_of h lo +ℤ pos 4) in
    (omega (arith, ints, a.1.0, a.1.1, b.1.0, b.1.1), omega (arith, ints, small, b.1.0, b.1.1))
joined (suc (suc (suc (suc zero)))) few h lo small =
    let a = parts4 (lo +ℤ pos 8) in
    let b = parts4 (sum_of h lo +ℤ pos 8) in
    (omega (arith, ints, a.1.0, a.1.1, b.1.0, b.1.1), omega (arith, ints, small, b.1.0, b.1.1))
joined (suc (suc (suc (suc (suc zero))))) few h lo small =
    let a = parts5 (lo +ℤ pos 16) in
    let b = parts5 (sum_of h lo +ℤ pos 16) in
    (omega (arith, ints, a.1.0, a.1.1, b.1.0, b.1.1), omega (arith, ints, small, b.1.0, b.1.1))
joined (suc (suc (suc (suc (suc (suc zero)))))) few h lo small =
    let a = parts6 (lo +ℤ pos 32) in
    let b = parts6 (sum_of h lo +ℤ pos 32) in
    (omega (arith, ints, a.1.0, a.1.1, b.1.0, b.1.1), omega (arith, ints, small, b.1.0, b.1.1))
joined (suc (suc (suc (suc (suc (suc (suc zero))))))) few h lo small =
    let a = parts7 (lo +ℤ pos 64) in
    let b = parts7 (sum_of h lo +ℤ pos 64) in
    (omega (arith, ints, a.1.0, a.1.1, b.1.0, b.1.1), omega (arith, ints, small, b.1.0, b.1.1))
joined (suc (suc (suc (suc (suc (suc (suc (suc zero)))))))) few h lo small =
    let a = parts8 (lo +ℤ pos 128) in
    let b = parts8 (sum_of h lo +ℤ pos 128) in
    (omega (arith, ints, a.1.0, a.1.1, b.1.0, b.1.1), omega (arith, ints, small, b.1.0, b.1.1))
joined (suc (suc (suc (suc (suc (suc (suc (suc (suc zero))))))))) few h lo small =
    let a = parts9 (lo +ℤ pos 256) in
    let b = parts9 (sum_of h lo +ℤ pos 256) in
    (omega (arith, ints, a.1.0, a.1.1, b.1.0, b.1.1), omega (arith, ints, small, b.1.0, b.1.1))
joined (suc (suc (suc (suc (suc (suc (suc (suc (suc (suc zero)))))))))) few h lo small =
    let a = parts10 (lo +ℤ pos 512) in
    let b = parts10 (sum_of h lo +ℤ pos 512) in
    (omega (arith, ints, a.1.0, a.1.1, b.1.0, b.1.1), omega (arith, ints, small, b.1.0, b.1.1))
joined (suc (suc (suc (suc (suc (suc (suc (suc (suc (suc (suc zero))))))))))) few h lo small =
    let a = parts11 (lo +ℤ pos 1024) in
    let b = parts11 (sum_of h lo +ℤ pos 1024) in
    (omega (arith, ints, a.1.0, a.1.1, b.1.0, b.1.1), omega (arith, ints, small, b.1.0, b.1.1))
joined (suc (suc (suc (suc (suc (suc (suc (suc (suc (suc (suc (suc zero)))))))))))) few h lo small =
    let a = parts12 (lo +ℤ pos 2048) in
    let b = parts12 (sum_of h lo +ℤ pos 2048) in
    (omega (arith, ints, a.1.0, a.1.1, b.1.0, b.1.1), omega (arith, ints, small, b.1.0, b.1.1))
joined (suc (suc (suc (suc (suc (suc (suc (suc (suc (suc (suc (suc (suc zero))))))))))))) few h lo small =
    let a = parts13 (lo +ℤ pos 4096) in
    let b = parts13 (sum_of h lo +ℤ pos 4096) in
    (omega (arith, ints, a.1.0, a.1.1, b.1.0, b.1.1), omega (arith, ints, small, b.1.0, b.1.1))
joined (suc (suc (suc (suc (suc (suc (suc (suc (suc (suc (suc (suc (suc (suc zero)))))))))))))) few h lo small =
    let a = parts14 (lo +ℤ pos 8192) in
    let b = parts14 (sum_of h lo +ℤ pos 8192) in
    (omega (arith, ints, a.1.0, a.1.1, b.1.0, b.1.1), omega (arith, ints, small, b.1.0, b.1.1))
joined (suc (suc (suc (suc (suc (suc (suc (suc (suc (suc (suc (suc (suc (suc (suc zero))))))))))))))) few h lo small =
    let a = parts15 (lo +ℤ pos 16384) in
    let b = parts15 (sum_of h lo +ℤ pos 16384) in
    (omega (arith, ints, a.1.0, a.1.1, b.1.0, b.1.1), omega (arith, ints, small, b.1.0, b.1.1))
joined (suc (suc (suc (suc (suc (suc (suc (suc (suc (suc (suc (suc (suc (suc (suc (suc s)))))))))))))))) few h lo
    small = absurd (omega arith)
