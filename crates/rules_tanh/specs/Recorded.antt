-- The thresholds of tanh, as the bits of their f64: for each k from 1 to 100 the smallest x whose tanh rounds to k
-- hundredths or more, (x.tanh() * 100.0).round() >= k. They are recorded once, by running Rust: rustc 1.95.0, -O,
-- x86_64-unknown-linux-gnu, tanh of glibc 2.36. Assumes nothing.
use Rattle.std.specs.Prelude.{List, [], ◌∷◌, ℕ}

unfoldable pub threshold_bits : List ℕ
threshold_bits =
    0x3f747aec7708d3c1 ∷ 0x3f8eb8e8ef71e42f ∷ 0x3f999af741a79dd8 ∷ 0x3fa1ed65058346d8 ∷ 0x3fa70e39e5612086
    ∷ 0x3fac303e04864744 ∷ 0x3fb0a9dac267851b ∷ 0x3fb33c727da2453e ∷ 0x3fb5d008c2efee68 ∷ 0x3fb864c070dc2fc6
    ∷ 0x3fbafabcc0d7b1aa ∷ 0x3fbd922152d5ff50 ∷ 0x3fc015891c9eaef7 ∷ 0x3fc162da02997242 ∷ 0x3fc2b115e9a6da73
    ∷ 0x3fc4004fac5e6ad6 ∷ 0x3fc5509a7875f00d ∷ 0x3fc6a209d5d9bf2a ∷ 0x3fc7f4b1ae11cbab ∷ 0x3fc948a653fb00bd
    ∷ 0x3fca9dfc8bdcd664 ∷ 0x3fcbf4c993e3b70d ∷ 0x3fcd4d232d0977ec ∷ 0x3fcea71fa475e7c8 ∷ 0x3fd0016aeeb1278a
    ∷ 0x3fd0b02eadc5d5ac ∷ 0x3fd15fe727203d7d ∷ 0x3fd210a0ce0c0b82 ∷ 0x3fd2c26877b17213 ∷ 0x3fd3754b61b20ab5
    ∷ 0x3fd429573933ac13 ∷ 0x3fd4de9a22634721 ∷ 0x3fd59522c07ae06c ∷ 0x3fd64d003e56dc66 ∷ 0x3fd7064257a81aa4
    ∷ 0x3fd7c0f962d1c9d5 ∷ 0x3fd87d365b8379f8 ∷ 0x3fd93b0aee21c2c9 ∷ 0x3fd9fa898411e10c ∷ 0x3fdabbc550feff34
    ∷ 0x3fdb7ed261327f3d ∷ 0x3fdc43c5a91b9882 ∷ 0x3fdd0ab516260306 ∷ 0x3fddd3b7a1034b07 ∷ 0x3fde9ee5618ed6c4
    ∷ 0x3fdf6c57a479bda2 ∷ 0x3fe01e148178b2a5 ∷ 0x3fe0873abe3d4880 ∷ 0x3fe0f1ad49a12808 ∷ 0x3fe15d7bb59797bf
    ∷ 0x3fe1cab67603bdcc ∷ 0x3fe2396ef386bbed ∷ 0x3fe2a9b7a04049db ∷ 0x3fe31ba40ec194f4 ∷ 0x3fe38f490b7bdfc1
    ∷ 0x3fe404bcb8ffc98d ∷ 0x3fe47c16af6fa7e5 ∷ 0x3fe4f5701f976179 ∷ 0x3fe570e3fa2f4c6b ∷ 0x3fe5ee8f1be65eab
    ∷ 0x3fe66e907eeb5aad ∷ 0x3fe6f10972cd9c5e ∷ 0x3fe7761ddbb61598 ∷ 0x3fe7fdf47a29978a ∷ 0x3fe888b73cc0e0a0
    ∷ 0x3fe916939d8bd316 ∷ 0x3fe9a7bb0d2f50dc ∷ 0x3fea3c636e3d2c13 ∷ 0x3fead4c7a3d1902b ∷ 0x3feb712837316045
    ∷ 0x3fec11cc19041f69 ∷ 0x3fecb70183e0a59f ∷ 0x3fed611f0751fc50 ∷ 0x3fee1084c454647c ∷ 0x3feec59de6b76381
    ∷ 0x3fef80e26a056d11 ∷ 0x3ff0216c9e6b8462 ∷ 0x3ff0860d6d9caa88 ∷ 0x3ff0eeaa4055421a ∷ 0x3ff15ba60e84618c
    ∷ 0x3ff1cd72a3815881 ∷ 0x3ff24493be1a285f ∷ 0x3ff2c1a30f2b32a0 ∷ 0x3ff34555656dcd53 ∷ 0x3ff3d08177aa83fd
    ∷ 0x3ff46428f36d6bb7 ∷ 0x3ff50184c9a509e0 ∷ 0x3ff5aa16394d481e ∷ 0x3ff65fbef92dd67f ∷ 0x3ff724e466ed7a35
    ∷ 0x3ff7fca460122add ∷ 0x3ff8eb279c557571 ∷ 0x3ff9f627d141e2ef ∷ 0x3ffb25d6659062c7 ∷ 0x3ffc86855ec052ac
    ∷ 0x3ffe2bff451f305b ∷ 0x40001c91ad41728d ∷ 0x40017a5089afb170 ∷ 0x40038a925f60582a ∷ 0x4007f4b24d3a30e2
    ∷ []
