-- What the Rust printed: the vector rows. Made from rows.txt by compare/table; not to be edited by hand.
-- Assumes nothing.
use Rattle.std.specs.Prelude.{List, [], ◌∷◌}
use Rattle.printed.specs.Rows.{Row, prints, answers, both, crate, straight, unknown, body, listing, repeated}

unfoldable pub vector_rows : List Row
vector_rows =
    -- Register names of banks 8 and 9, by byte
    body both "00AF 00 04 00 00000000 00000000 04 0100400000 0100410000 0100420000 0100430000 00 00" (prints "vaddpd zmm0, zmm1, zmm2, zmm3") ∷
    body both "00AF 00 04 00 00000000 00000000 04 0200440000 0200450000 0200460000 0200470000 00 00" (prints "vaddpd zmm4, zmm5, zmm6, zmm7") ∷
    body both "00AF 00 04 00 00000000 00000000 04 0100480000 0100490000 01004A0000 01004B0000 00 00" (prints "vaddpd k0, k1, k2, k3") ∷
    body both "00AF 00 04 00 00000000 00000000 04 02004C0000 02004D0000 02004E0000 02004F0000 00 00" (prints "vaddpd k4, k5, k6, k7") ∷
    -- Each vector opcode of the general path: labels and segments, 8 by the registers of banks 5 to 7
    body both "009E 08 04 08 00000000 00000000 02 0100310000 0B05010000 00 00" (prints "vcvtpd2ps xmm1, mmword ptr fs:[ecx]") ∷
    body both "009E 00 04 08 0000000A 00000004 03 0100400000 0100490000 12040100004A 00 00" (prints "vcvtpd2ps zmm0, k1, qword ptr ds:[ecx + 4]{k2}") ∷
    body both "009F 08 04 08 00000000 00000000 02 0100310000 0B05010000 00 00" (prints "vcvttpd2udq xmm1, mmword ptr fs:[ecx]") ∷
    body both "009F 00 04 08 0000000A 00000004 03 0100400000 0100490000 12040100004A 00 00" (prints "vcvttpd2udq zmm0, k1, qword ptr ds:[ecx + 4]{k2}") ∷
    body both "00A0 08 04 08 00000000 00000000 02 0100310000 0B05010000 00 00" (prints "vcvtpd2udq xmm1, mmword ptr fs:[ecx]") ∷
    body both "00A0 00 04 08 0000000A 00000004 03 0100400000 0100490000 12040100004A 00 00" (prints "vcvtpd2udq zmm0, k1, qword ptr ds:[ecx + 4]{k2}") ∷
    body both "00A1 08 04 08 00000000 00000000 02 0100310000 0B05010000 00 00" (prints "vcvtudq2pd xmm1, mmword ptr fs:[ecx]") ∷
    body both "00A1 00 04 08 0000000A 00000004 03 0100400000 0100490000 12040100004A 00 00" (prints "vcvtudq2pd zmm0, k1, qword ptr ds:[ecx + 4]{k2}") ∷
    body both "00A2 08 04 08 00000000 00000000 02 0100310000 0B05010000 00 00" (prints "vcvtps2pd xmm1, mmword ptr fs:[ecx]") ∷
    body both "00A2 00 04 08 0000000A 00000004 03 0100400000 0100490000 12040100004A 00 00" (prints "vcvtps2pd zmm0, k1, qword ptr ds:[ecx + 4]{k2}") ∷
    body both "00A3 08 04 08 00000000 00000000 02 0100310000 0B05010000 00 00" (prints "vcvtqq2ps xmm1, mmword ptr fs:[ecx]") ∷
    body both "00A3 00 04 08 0000000A 00000004 03 0100400000 0100490000 12040100004A 00 00" (prints "vcvtqq2ps zmm0, k1, qword ptr ds:[ecx + 4]{k2}") ∷
    body both "00A4 08 04 08 00000000 00000000 02 0100310000 0B05010000 00 00" (prints "vcvtdq2pd xmm1, mmword ptr fs:[ecx]") ∷
    body both "00A4 00 04 08 0000000A 00000004 03 0100400000 0100490000 12040100004A 00 00" (prints "vcvtdq2pd zmm0, k1, qword ptr ds:[ecx + 4]{k2}") ∷
    body both "00A5 08 04 08 00000000 00000000 02 0100310000 0B05010000 00 00" (prints "vcvttpd2dq xmm1, mmword ptr fs:[ecx]") ∷
    body both "00A5 00 04 08 0000000A 00000004 03 0100400000 0100490000 12040100004A 00 00" (prints "vcvttpd2dq zmm0, k1, qword ptr ds:[ecx + 4]{k2}") ∷
    body both "00A6 08 04 08 00000000 00000000 02 0100310000 0B05010000 00 00" (prints "vfpclassps xmm1, mmword ptr fs:[ecx]") ∷
    body both "00A6 00 04 08 0000000A 00000004 03 0100400000 0100490000 12040100004A 00 00" (prints "vfpclassps zmm0, k1, qword ptr ds:[ecx + 4]{k2}") ∷
    body both "00A7 08 04 08 00000000 00000000 02 0100310000 0B05010000 00 00" (prints "vfpclasspd xmm1, mmword ptr fs:[ecx]") ∷
    body both "00A7 00 04 08 0000000A 00000004 03 0100400000 0100490000 12040100004A 00 00" (prints "vfpclasspd zmm0, k1, qword ptr ds:[ecx + 4]{k2}") ∷
    body both "00A8 08 04 08 00000000 00000000 02 0100310000 0B05010000 00 00" (prints "vcvtneps2bf16 xmm1, mmword ptr fs:[ecx]") ∷
    body both "00A8 00 04 08 0000000A 00000004 03 0100400000 0100490000 12040100004A 00 00" (prints "vcvtneps2bf16 zmm0, k1, qword ptr ds:[ecx + 4]{k2}") ∷
    body both "00A9 08 04 08 00000000 00000000 02 0100310000 0B05010000 00 00" (prints "vcvtuqq2ps xmm1, mmword ptr fs:[ecx]") ∷
    body both "00A9 00 04 08 0000000A 00000004 03 0100400000 0100490000 12040100004A 00 00" (prints "vcvtuqq2ps zmm0, k1, qword ptr ds:[ecx + 4]{k2}") ∷
    body both "00AA 08 04 08 00000000 00000000 02 0100310000 0B05010000 00 00" (prints "vcvtpd2dq xmm1, mmword ptr fs:[ecx]") ∷
    body both "00AA 00 04 08 0000000A 00000004 03 0100400000 0100490000 12040100004A 00 00" (prints "vcvtpd2dq zmm0, k1, qword ptr ds:[ecx + 4]{k2}") ∷
    body both "00AB 08 04 08 00000000 00000000 02 0100310000 0B05010000 00 00" (prints "vcvttps2uqq xmm1, mmword ptr fs:[ecx]") ∷
    body both "00AB 00 04 08 0000000A 00000004 03 0100400000 0100490000 12040100004A 00 00" (prints "vcvttps2uqq zmm0, k1, qword ptr ds:[ecx + 4]{k2}") ∷
    body both "00AC 08 04 08 00000000 00000000 02 0100310000 0B05010000 00 00" (prints "vcvtps2uqq xmm1, mmword ptr fs:[ecx]") ∷
    body both "00AC 00 04 08 0000000A 00000004 03 0100400000 0100490000 12040100004A 00 00" (prints "vcvtps2uqq zmm0, k1, qword ptr ds:[ecx + 4]{k2}") ∷
    body both "00AD 08 04 08 00000000 00000000 02 0100310000 0B05010000 00 00" (prints "vcvttps2qq xmm1, mmword ptr fs:[ecx]") ∷
    body both "00AD 00 04 08 0000000A 00000004 03 0100400000 0100490000 12040100004A 00 00" (prints "vcvttps2qq zmm0, k1, qword ptr ds:[ecx + 4]{k2}") ∷
    body both "00AE 08 04 08 00000000 00000000 02 0100310000 0B05010000 00 00" (prints "vcvtps2qq xmm1, mmword ptr fs:[ecx]") ∷
    body both "00AE 00 04 08 0000000A 00000004 03 0100400000 0100490000 12040100004A 00 00" (prints "vcvtps2qq zmm0, k1, qword ptr ds:[ecx + 4]{k2}") ∷
    body both "00AF 08 04 08 00000000 00000000 02 0100310000 0B05010000 00 00" (prints "vaddpd xmm1, mmword ptr fs:[ecx]") ∷
    body both "00AF 00 04 08 0000000A 00000004 03 0100400000 0100490000 12040100004A 00 00" (prints "vaddpd zmm0, k1, qword ptr ds:[ecx + 4]{k2}") ∷
    body both "00AF 00 04 00 00000000 00000000 00 00 00" (prints "vaddpd") ∷
    body both "00AF 00 04 00 00000000 00000000 03 0100400000 0100410000 0200420000 00 00" (prints "vaddpd zmm0, zmm1, zmm2") ∷
    body both "00AF 00 04 00 FFFFFFFF 00000000 02 0300000000 0500000000 00 00" (prints "vaddpd 0FFFFFFFFh, 0FFFFFFFFh") ∷
    body both "00AF 00 04 3F 00000000 00000000 02 0B00000000 0B00010000 00 00" (prints "vaddpd [eax], [ecx]") ∷
    body both "00AF 3F 04 40 00000000 00000000 02 0100400000 0B00010000 00 00" (prints "xacquire xrelease lock vaddpd zmm0, zmmword ptr [ecx]") ∷
    body both "00A2 00 05 00 0000007B 00000000 01 0500000000 00 00" (prints "vcvtps2pd 7Bh") ∷
    body both "00A7 00 04 00 000000FF 00000000 03 0200480000 0100470000 0600000000 00 00" (prints "vfpclasspd k0, zmm7, 0FFh") ∷
    -- VPSCATTER: operand 0 by its own label, with no segment, operand 1 as its mask, operand 2
    body both "009A 08 04 04 00000000 00000000 03 0F00004104 0200490000 0100420000 00 00" (prints "vpscatterdd dword ptr [eax + zmm1 * 4]{k1}, zmm2") ∷
    body both "009A 48 04 03 00000000 FFFFFFFC 03 1005003F01 0100490000 0100420000 03 02" (prints "vpscatterdd dword ptr [eax + ymm7 - 4]{k1}, zmm2") ∷
    body both "009A 00 04 00 00000000 00000000 03 0D00300001 0100490000 0100300000 00 00" (prints "vpscatterdd dword ptr [xmm0]{k1}, xmm0") ∷
    body both "009A 00 04 00 00000000 00000010 03 0E00390008 0100480000 0100380000 00 00" (prints "vpscatterdd dword ptr [ymm1 * 8 + 10h]{k0}, ymm0") ∷
    body both "009A 00 04 00 00000000 7FFFFFFF 03 1004034708 02004F0000 0100420000 00 00" (prints "vpscatterdd dword ptr [ebx + zmm7 * 8 + 7FFFFFFFh]{k7}, zmm2") ∷
    body both "009B 08 04 04 00000000 00000000 03 0F00004104 0200490000 0100420000 00 00" (prints "vpscatterqd dword ptr [eax + zmm1 * 4]{k1}, zmm2") ∷
    body both "009B 48 04 03 00000000 FFFFFFFC 03 1005003F01 0100490000 0100420000 03 02" (prints "vpscatterqd dword ptr [eax + ymm7 - 4]{k1}, zmm2") ∷
    body both "009C 08 04 04 00000000 00000000 03 0F00004104 0200490000 0100420000 00 00" (prints "vpscatterdq qword ptr [eax + zmm1 * 4]{k1}, zmm2") ∷
    body both "009C 48 04 03 00000000 FFFFFFFC 03 1005003F01 0100490000 0100420000 03 02" (prints "vpscatterdq qword ptr [eax + ymm7 - 4]{k1}, zmm2") ∷
    body both "009D 08 04 04 00000000 00000000 03 0F00004104 0200490000 0100420000 00 00" (prints "vpscatterqq qword ptr [eax + zmm1 * 4]{k1}, zmm2") ∷
    body both "009D 48 04 03 00000000 FFFFFFFC 03 1005003F01 0100490000 0100420000 03 02" (prints "vpscatterqq qword ptr [eax + ymm7 - 4]{k1}, zmm2") ∷
    -- VPSCATTER: each kind of memory, absolutes too, an index of banks 0 and 1 too
    body both "009A 00 04 00 00000000 00000ABC 03 0900000000 0100490000 0100420000 00 00" (prints "vpscatterdd dword ptr [0ABCh]{k1}, zmm2") ∷
    body both "009D 00 04 00 00000000 FFFFF544 03 0906000000 0200480000 0100420000 00 00" (prints "vpscatterqq qword ptr [0F544h]{k0}, zmm2") ∷
    body both "009A 00 04 00 00000000 00000ABC 03 0A00000000 0100490000 0100420000 00 00" (prints "vpscatterdd dword ptr [00000ABCh]{k1}, zmm2") ∷
    body both "009D 00 04 00 00000000 FFFFF544 03 0A06000000 0200480000 0100420000 00 00" (prints "vpscatterqq qword ptr [0FFFFF544h]{k0}, zmm2") ∷
    body both "009A 00 04 00 00000000 00000ABC 03 0B00000000 0100490000 0100420000 00 00" (prints "vpscatterdd dword ptr [eax]{k1}, zmm2") ∷
    body both "009D 00 04 00 00000000 FFFFF544 03 0B06000000 0200480000 0100420000 00 00" (prints "vpscatterqq qword ptr [eax]{k0}, zmm2") ∷
    body both "009A 00 04 00 00000000 00000ABC 03 0C00000000 0100490000 0100420000 00 00" (prints "vpscatterdd dword ptr [eax + 0ABCh]{k1}, zmm2") ∷
    body both "009D 00 04 00 00000000 FFFFF544 03 0C06000000 0200480000 0100420000 00 00" (prints "vpscatterqq qword ptr [eax - 0ABCh]{k0}, zmm2") ∷
    body both "009A 00 04 00 00000000 00000ABC 03 0D00010002 0100490000 0100420000 00 00" (prints "vpscatterdd dword ptr [ecx * 2]{k1}, zmm2") ∷
    body both "009D 00 04 00 00000000 FFFFF544 03 0D06010002 0200480000 0100420000 00 00" (prints "vpscatterqq qword ptr [ecx * 2]{k0}, zmm2") ∷
    body both "009A 00 04 00 00000000 00000ABC 03 0E00090004 0100490000 0100420000 00 00" (prints "vpscatterdd dword ptr [cx * 4 + 0ABCh]{k1}, zmm2") ∷
    body both "009D 00 04 00 00000000 FFFFF544 03 0E06090004 0200480000 0100420000 00 00" (prints "vpscatterqq qword ptr [cx * 4 - 0ABCh]{k0}, zmm2") ∷
    body both "009A 00 04 00 00000000 00000ABC 03 0F00000108 0100490000 0100420000 00 00" (prints "vpscatterdd dword ptr [eax + ecx * 8]{k1}, zmm2") ∷
    body both "009D 00 04 00 00000000 FFFFF544 03 0F06000108 0200480000 0100420000 00 00" (prints "vpscatterqq qword ptr [eax + ecx * 8]{k0}, zmm2") ∷
    body both "009A 00 04 00 00000000 00000ABC 03 10000B0E01 0100490000 0100420000 00 00" (prints "vpscatterdd dword ptr [bx + si + 0ABCh]{k1}, zmm2") ∷
    body both "009D 00 04 00 00000000 FFFFF544 03 10060B0E01 0200480000 0100420000 00 00" (prints "vpscatterqq qword ptr [bx + si - 0ABCh]{k0}, zmm2") ∷
    -- VPSCATTER: each mask, k0 too; any operand 2, its own mask shown and its segment not; a fourth is not shown
    body both "009B 00 04 00 00000000 00000000 03 0F00003004 0200480000 0100400000 00 00" (prints "vpscatterqd dword ptr [eax + xmm0 * 4]{k0}, zmm0") ∷
    body both "009B 00 04 00 00000000 00000000 03 0F00003004 0200490000 0100410000 00 00" (prints "vpscatterqd dword ptr [eax + xmm0 * 4]{k1}, zmm1") ∷
    body both "009B 00 04 00 00000000 00000000 03 0F00003004 02004A0000 0100420000 00 00" (prints "vpscatterqd dword ptr [eax + xmm0 * 4]{k2}, zmm2") ∷
    body both "009B 00 04 00 00000000 00000000 03 0F00003004 02004B0000 0100430000 00 00" (prints "vpscatterqd dword ptr [eax + xmm0 * 4]{k3}, zmm3") ∷
    body both "009B 00 04 00 00000000 00000000 03 0F00003004 02004C0000 0100440000 00 00" (prints "vpscatterqd dword ptr [eax + xmm0 * 4]{k4}, zmm4") ∷
    body both "009B 00 04 00 00000000 00000000 03 0F00003004 02004D0000 0100450000 00 00" (prints "vpscatterqd dword ptr [eax + xmm0 * 4]{k5}, zmm5") ∷
    body both "009B 00 04 00 00000000 00000000 03 0F00003004 02004E0000 0100460000 00 00" (prints "vpscatterqd dword ptr [eax + xmm0 * 4]{k6}, zmm6") ∷
    body both "009B 00 04 00 00000000 00000000 03 0F00003004 02004F0000 0100470000 00 00" (prints "vpscatterqd dword ptr [eax + xmm0 * 4]{k7}, zmm7") ∷
    body both "009C 40 04 01 0000000A FFFFFFFF 04 0F00004004 0100490000 0100000000 110000000049 01 01" (prints "vpscatterdq qword ptr [eax + zmm0 * 4]{k1}, eax") ∷
    body both "009C 40 04 01 0000000A FFFFFFFF 04 0F00004004 0100490000 0600000000 110000000049 01 01" (prints "vpscatterdq qword ptr [eax + zmm0 * 4]{k1}, 0Ah") ∷
    body both "009C 40 04 01 0000000A FFFFFFFF 04 0F00004004 0100490000 0900000000 110000000049 01 01" (prints "vpscatterdq qword ptr [eax + zmm0 * 4]{k1}, [0FFFFh]") ∷
    body both "009C 40 04 01 0000000A FFFFFFFF 04 0F00004004 0100490000 0C05010000 110000000049 01 01" (prints "vpscatterdq qword ptr [eax + zmm0 * 4]{k1}, [ecx - 1]") ∷
    body both "009C 40 04 01 0000000A FFFFFFFF 04 0F00004004 0100490000 16010102024B 110000000049 01 01" (prints "vpscatterdq qword ptr [eax + zmm0 * 4]{k1}, [ecx + edx * 2 - 1]{k3}") ∷
    -- {1toN} by the length bits: 8 with l, else 16 with lp, else 4 for VFPCLASSPS and VCVTNEPS2BF16; 4, 8 and 2 for the others
    body both "009E 40 04 01 00000000 00000000 02 0100400000 0B00010000 00 00" (prints "vcvtpd2ps zmm0, byte ptr [ecx]{1to2}") ∷
    body both "009E 40 04 01 00000000 00000000 02 0100400000 0B00010000 01 00" (prints "vcvtpd2ps zmm0, byte ptr [ecx]{1to4}") ∷
    body both "009E 40 04 01 00000000 00000000 02 0100400000 0B00010000 02 00" (prints "vcvtpd2ps zmm0, byte ptr [ecx]{1to8}") ∷
    body both "009E 40 04 01 00000000 00000000 02 0100400000 0B00010000 03 00" (prints "vcvtpd2ps zmm0, byte ptr [ecx]{1to4}") ∷
    body both "009F 40 04 01 00000000 00000000 02 0100400000 0B00010000 00 00" (prints "vcvttpd2udq zmm0, byte ptr [ecx]{1to2}") ∷
    body both "009F 40 04 01 00000000 00000000 02 0100400000 0B00010000 01 00" (prints "vcvttpd2udq zmm0, byte ptr [ecx]{1to4}") ∷
    body both "009F 40 04 01 00000000 00000000 02 0100400000 0B00010000 02 00" (prints "vcvttpd2udq zmm0, byte ptr [ecx]{1to8}") ∷
    body both "009F 40 04 01 00000000 00000000 02 0100400000 0B00010000 03 00" (prints "vcvttpd2udq zmm0, byte ptr [ecx]{1to4}") ∷
    body both "00A0 40 04 01 00000000 00000000 02 0100400000 0B00010000 00 00" (prints "vcvtpd2udq zmm0, byte ptr [ecx]{1to2}") ∷
    body both "00A0 40 04 01 00000000 00000000 02 0100400000 0B00010000 01 00" (prints "vcvtpd2udq zmm0, byte ptr [ecx]{1to4}") ∷
    body both "00A0 40 04 01 00000000 00000000 02 0100400000 0B00010000 02 00" (prints "vcvtpd2udq zmm0, byte ptr [ecx]{1to8}") ∷
    body both "00A0 40 04 01 00000000 00000000 02 0100400000 0B00010000 03 00" (prints "vcvtpd2udq zmm0, byte ptr [ecx]{1to4}") ∷
    body both "00A1 40 04 01 00000000 00000000 02 0100400000 0B00010000 00 00" (prints "vcvtudq2pd zmm0, byte ptr [ecx]{1to2}") ∷
    body both "00A1 40 04 01 00000000 00000000 02 0100400000 0B00010000 01 00" (prints "vcvtudq2pd zmm0, byte ptr [ecx]{1to4}") ∷
    body both "00A1 40 04 01 00000000 00000000 02 0100400000 0B00010000 02 00" (prints "vcvtudq2pd zmm0, byte ptr [ecx]{1to8}") ∷
    body both "00A1 40 04 01 00000000 00000000 02 0100400000 0B00010000 03 00" (prints "vcvtudq2pd zmm0, byte ptr [ecx]{1to4}") ∷
    body both "00A2 40 04 01 00000000 00000000 02 0100400000 0B00010000 00 00" (prints "vcvtps2pd zmm0, byte ptr [ecx]{1to2}") ∷
    body both "00A2 40 04 01 00000000 00000000 02 0100400000 0B00010000 01 00" (prints "vcvtps2pd zmm0, byte ptr [ecx]{1to4}") ∷
    body both "00A2 40 04 01 00000000 00000000 02 0100400000 0B00010000 02 00" (prints "vcvtps2pd zmm0, byte ptr [ecx]{1to8}") ∷
    body both "00A2 40 04 01 00000000 00000000 02 0100400000 0B00010000 03 00" (prints "vcvtps2pd zmm0, byte ptr [ecx]{1to4}") ∷
    body both "00A3 40 04 01 00000000 00000000 02 0100400000 0B00010000 00 00" (prints "vcvtqq2ps zmm0, byte ptr [ecx]{1to2}") ∷
    body both "00A3 40 04 01 00000000 00000000 02 0100400000 0B00010000 01 00" (prints "vcvtqq2ps zmm0, byte ptr [ecx]{1to4}") ∷
    body both "00A3 40 04 01 00000000 00000000 02 0100400000 0B00010000 02 00" (prints "vcvtqq2ps zmm0, byte ptr [ecx]{1to8}") ∷
    body both "00A3 40 04 01 00000000 00000000 02 0100400000 0B00010000 03 00" (prints "vcvtqq2ps zmm0, byte ptr [ecx]{1to4}") ∷
    body both "00A4 40 04 01 00000000 00000000 02 0100400000 0B00010000 00 00" (prints "vcvtdq2pd zmm0, byte ptr [ecx]{1to2}") ∷
    body both "00A4 40 04 01 00000000 00000000 02 0100400000 0B00010000 01 00" (prints "vcvtdq2pd zmm0, byte ptr [ecx]{1to4}") ∷
    body both "00A4 40 04 01 00000000 00000000 02 0100400000 0B00010000 02 00" (prints "vcvtdq2pd zmm0, byte ptr [ecx]{1to8}") ∷
    body both "00A4 40 04 01 00000000 00000000 02 0100400000 0B00010000 03 00" (prints "vcvtdq2pd zmm0, byte ptr [ecx]{1to4}") ∷
    body both "00A5 40 04 01 00000000 00000000 02 0100400000 0B00010000 00 00" (prints "vcvttpd2dq zmm0, byte ptr [ecx]{1to2}") ∷
    body both "00A5 40 04 01 00000000 00000000 02 0100400000 0B00010000 01 00" (prints "vcvttpd2dq zmm0, byte ptr [ecx]{1to4}") ∷
    body both "00A5 40 04 01 00000000 00000000 02 0100400000 0B00010000 02 00" (prints "vcvttpd2dq zmm0, byte ptr [ecx]{1to8}") ∷
    body both "00A5 40 04 01 00000000 00000000 02 0100400000 0B00010000 03 00" (prints "vcvttpd2dq zmm0, byte ptr [ecx]{1to4}") ∷
    body both "00A6 40 04 01 00000000 00000000 02 0100400000 0B00010000 00 00" (prints "vfpclassps zmm0, byte ptr [ecx]{1to4}") ∷
    body both "00A6 40 04 01 00000000 00000000 02 0100400000 0B00010000 01 00" (prints "vfpclassps zmm0, byte ptr [ecx]{1to8}") ∷
    body both "00A6 40 04 01 00000000 00000000 02 0100400000 0B00010000 02 00" (prints "vfpclassps zmm0, byte ptr [ecx]{1to16}") ∷
    body both "00A6 40 04 01 00000000 00000000 02 0100400000 0B00010000 03 00" (prints "vfpclassps zmm0, byte ptr [ecx]{1to8}") ∷
    body both "00A7 40 04 01 00000000 00000000 02 0100400000 0B00010000 00 00" (prints "vfpclasspd zmm0, byte ptr [ecx]{1to2}") ∷
    body both "00A7 40 04 01 00000000 00000000 02 0100400000 0B00010000 01 00" (prints "vfpclasspd zmm0, byte ptr [ecx]{1to4}") ∷
    body both "00A7 40 04 01 00000000 00000000 02 0100400000 0B00010000 02 00" (prints "vfpclasspd zmm0, byte ptr [ecx]{1to8}") ∷
    body both "00A7 40 04 01 00000000 00000000 02 0100400000 0B00010000 03 00" (prints "vfpclasspd zmm0, byte ptr [ecx]{1to4}") ∷
    body both "00A8 40 04 01 00000000 00000000 02 0100400000 0B00010000 00 00" (prints "vcvtneps2bf16 zmm0, byte ptr [ecx]{1to4}") ∷
    body both "00A8 40 04 01 00000000 00000000 02 0100400000 0B00010000 01 00" (prints "vcvtneps2bf16 zmm0, byte ptr [ecx]{1to8}") ∷
    body both "00A8 40 04 01 00000000 00000000 02 0100400000 0B00010000 02 00" (prints "vcvtneps2bf16 zmm0, byte ptr [ecx]{1to16}") ∷
    body both "00A8 40 04 01 00000000 00000000 02 0100400000 0B00010000 03 00" (prints "vcvtneps2bf16 zmm0, byte ptr [ecx]{1to8}") ∷
    body both "00A9 40 04 01 00000000 00000000 02 0100400000 0B00010000 00 00" (prints "vcvtuqq2ps zmm0, byte ptr [ecx]{1to2}") ∷
    body both "00A9 40 04 01 00000000 00000000 02 0100400000 0B00010000 01 00" (prints "vcvtuqq2ps zmm0, byte ptr [ecx]{1to4}") ∷
    body both "00A9 40 04 01 00000000 00000000 02 0100400000 0B00010000 02 00" (prints "vcvtuqq2ps zmm0, byte ptr [ecx]{1to8}") ∷
    body both "00A9 40 04 01 00000000 00000000 02 0100400000 0B00010000 03 00" (prints "vcvtuqq2ps zmm0, byte ptr [ecx]{1to4}") ∷
    body both "00AA 40 04 01 00000000 00000000 02 0100400000 0B00010000 00 00" (prints "vcvtpd2dq zmm0, byte ptr [ecx]{1to2}") ∷
    body both "00AA 40 04 01 00000000 00000000 02 0100400000 0B00010000 01 00" (prints "vcvtpd2dq zmm0, byte ptr [ecx]{1to4}") ∷
    body both "00AA 40 04 01 00000000 00000000 02 0100400000 0B00010000 02 00" (prints "vcvtpd2dq zmm0, byte ptr [ecx]{1to8}") ∷
    body both "00AA 40 04 01 00000000 00000000 02 0100400000 0B00010000 03 00" (prints "vcvtpd2dq zmm0, byte ptr [ecx]{1to4}") ∷
    body both "00AB 40 04 01 00000000 00000000 02 0100400000 0B00010000 00 00" (prints "vcvttps2uqq zmm0, byte ptr [ecx]{1to2}") ∷
    body both "00AB 40 04 01 00000000 00000000 02 0100400000 0B00010000 01 00" (prints "vcvttps2uqq zmm0, byte ptr [ecx]{1to4}") ∷
    body both "00AB 40 04 01 00000000 00000000 02 0100400000 0B00010000 02 00" (prints "vcvttps2uqq zmm0, byte ptr [ecx]{1to8}") ∷
    body both "00AB 40 04 01 00000000 00000000 02 0100400000 0B00010000 03 00" (prints "vcvttps2uqq zmm0, byte ptr [ecx]{1to4}") ∷
    body both "00AC 40 04 01 00000000 00000000 02 0100400000 0B00010000 00 00" (prints "vcvtps2uqq zmm0, byte ptr [ecx]{1to2}") ∷
    body both "00AC 40 04 01 00000000 00000000 02 0100400000 0B00010000 01 00" (prints "vcvtps2uqq zmm0, byte ptr [ecx]{1to4}") ∷
    body both "00AC 40 04 01 00000000 00000000 02 0100400000 0B00010000 02 00" (prints "vcvtps2uqq zmm0, byte ptr [ecx]{1to8}") ∷
    body both "00AC 40 04 01 00000000 00000000 02 0100400000 0B00010000 03 00" (prints "vcvtps2uqq zmm0, byte ptr [ecx]{1to4}") ∷
    body both "00AD 40 04 01 00000000 00000000 02 0100400000 0B00010000 00 00" (prints "vcvttps2qq zmm0, byte ptr [ecx]{1to2}") ∷
    body both "00AD 40 04 01 00000000 00000000 02 0100400000 0B00010000 01 00" (prints "vcvttps2qq zmm0, byte ptr [ecx]{1to4}") ∷
    body both "00AD 40 04 01 00000000 00000000 02 0100400000 0B00010000 02 00" (prints "vcvttps2qq zmm0, byte ptr [ecx]{1to8}") ∷
    body both "00AD 40 04 01 00000000 00000000 02 0100400000 0B00010000 03 00" (prints "vcvttps2qq zmm0, byte ptr [ecx]{1to4}") ∷
    body both "00AE 40 04 01 00000000 00000000 02 0100400000 0B00010000 00 00" (prints "vcvtps2qq zmm0, byte ptr [ecx]{1to2}") ∷
    body both "00AE 40 04 01 00000000 00000000 02 0100400000 0B00010000 01 00" (prints "vcvtps2qq zmm0, byte ptr [ecx]{1to4}") ∷
    body both "00AE 40 04 01 00000000 00000000 02 0100400000 0B00010000 02 00" (prints "vcvtps2qq zmm0, byte ptr [ecx]{1to8}") ∷
    body both "00AE 40 04 01 00000000 00000000 02 0100400000 0B00010000 03 00" (prints "vcvtps2qq zmm0, byte ptr [ecx]{1to4}") ∷
    -- {1toN} by widths: of each bank and of each immediate
    body both "00AF 40 04 08 00000000 00000000 02 0100010000 0B00010000 00 00" (prints "vaddpd ecx, qword ptr [ecx]{1to0}") ∷
    body both "00AF 40 04 04 00000000 00000000 02 0100010000 0B00010000 00 00" (prints "vaddpd ecx, dword ptr [ecx]{1to1}") ∷
    body both "00AF 40 04 02 00000000 00000000 02 0100010000 0B00010000 00 00" (prints "vaddpd ecx, word ptr [ecx]{1to2}") ∷
    body both "00AF 40 04 01 00000000 00000000 02 0100010000 0B00010000 00 00" (prints "vaddpd ecx, byte ptr [ecx]{1to4}") ∷
    body both "00AF 40 04 08 00000000 00000000 02 0100090000 0B00010000 00 00" (prints "vaddpd cx, qword ptr [ecx]{1to0}") ∷
    body both "00AF 40 04 04 00000000 00000000 02 0100090000 0B00010000 00 00" (prints "vaddpd cx, dword ptr [ecx]{1to0}") ∷
    body both "00AF 40 04 02 00000000 00000000 02 0100090000 0B00010000 00 00" (prints "vaddpd cx, word ptr [ecx]{1to1}") ∷
    body both "00AF 40 04 01 00000000 00000000 02 0100090000 0B00010000 00 00" (prints "vaddpd cx, byte ptr [ecx]{1to2}") ∷
    body both "00AF 40 04 08 00000000 00000000 02 0100110000 0B00010000 00 00" (prints "vaddpd cl, qword ptr [ecx]{1to0}") ∷
    body both "00AF 40 04 04 00000000 00000000 02 0100110000 0B00010000 00 00" (prints "vaddpd cl, dword ptr [ecx]{1to0}") ∷
    body both "00AF 40 04 02 00000000 00000000 02 0100110000 0B00010000 00 00" (prints "vaddpd cl, word ptr [ecx]{1to0}") ∷
    body both "00AF 40 04 01 00000000 00000000 02 0100110000 0B00010000 00 00" (prints "vaddpd cl, byte ptr [ecx]{1to1}") ∷
    body both "00AF 40 04 08 00000000 00000000 02 0100190000 0B00010000 00 00" (prints "vaddpd cs, qword ptr [ecx]{1to0}") ∷
    body both "00AF 40 04 04 00000000 00000000 02 0100190000 0B00010000 00 00" (prints "vaddpd cs, dword ptr [ecx]{1to0}") ∷
    body both "00AF 40 04 02 00000000 00000000 02 0100190000 0B00010000 00 00" (prints "vaddpd cs, word ptr [ecx]{1to1}") ∷
    body both "00AF 40 04 01 00000000 00000000 02 0100190000 0B00010000 00 00" (prints "vaddpd cs, byte ptr [ecx]{1to2}") ∷
    body both "00AF 40 04 08 00000000 00000000 02 0100210000 0B00010000 00 00" (prints "vaddpd st(1), qword ptr [ecx]{1to1}") ∷
    body both "00AF 40 04 04 00000000 00000000 02 0100210000 0B00010000 00 00" (prints "vaddpd st(1), dword ptr [ecx]{1to2}") ∷
    body both "00AF 40 04 02 00000000 00000000 02 0100210000 0B00010000 00 00" (prints "vaddpd st(1), word ptr [ecx]{1to5}") ∷
    body both "00AF 40 04 01 00000000 00000000 02 0100210000 0B00010000 00 00" (prints "vaddpd st(1), byte ptr [ecx]{1to10}") ∷
    body both "00AF 40 04 08 00000000 00000000 02 0100290000 0B00010000 00 00" (prints "vaddpd mm1, mmword ptr [ecx]{1to1}") ∷
    body both "00AF 40 04 04 00000000 00000000 02 0100290000 0B00010000 00 00" (prints "vaddpd mm1, dword ptr [ecx]{1to2}") ∷
    body both "00AF 40 04 02 00000000 00000000 02 0100290000 0B00010000 00 00" (prints "vaddpd mm1, word ptr [ecx]{1to4}") ∷
    body both "00AF 40 04 01 00000000 00000000 02 0100290000 0B00010000 00 00" (prints "vaddpd mm1, byte ptr [ecx]{1to8}") ∷
    body both "00AF 40 04 08 00000000 00000000 02 0100310000 0B00010000 00 00" (prints "vaddpd xmm1, mmword ptr [ecx]{1to2}") ∷
    body both "00AF 40 04 04 00000000 00000000 02 0100310000 0B00010000 00 00" (prints "vaddpd xmm1, dword ptr [ecx]{1to4}") ∷
    body both "00AF 40 04 02 00000000 00000000 02 0100310000 0B00010000 00 00" (prints "vaddpd xmm1, word ptr [ecx]{1to8}") ∷
    body both "00AF 40 04 01 00000000 00000000 02 0100310000 0B00010000 00 00" (prints "vaddpd xmm1, byte ptr [ecx]{1to16}") ∷
    body both "00AF 40 04 08 00000000 00000000 02 0100390000 0B00010000 00 00" (prints "vaddpd ymm1, mmword ptr [ecx]{1to4}") ∷
    body both "00AF 40 04 04 00000000 00000000 02 0100390000 0B00010000 00 00" (prints "vaddpd ymm1, dword ptr [ecx]{1to8}") ∷
    body both "00AF 40 04 02 00000000 00000000 02 0100390000 0B00010000 00 00" (prints "vaddpd ymm1, word ptr [ecx]{1to16}") ∷
    body both "00AF 40 04 08 00000000 00000000 02 0100410000 0B00010000 00 00" (prints "vaddpd zmm1, qword ptr [ecx]{1to8}") ∷
    body both "00AF 40 04 04 00000000 00000000 02 0100410000 0B00010000 00 00" (prints "vaddpd zmm1, dword ptr [ecx]{1to16}") ∷
    body both "00AF 40 04 08 00000000 00000000 02 0100490000 0B00010000 00 00" (prints "vaddpd k1, qword ptr [ecx]{1to1}") ∷
    body both "00AF 40 04 04 00000000 00000000 02 0100490000 0B00010000 00 00" (prints "vaddpd k1, dword ptr [ecx]{1to2}") ∷
    body both "00AF 40 04 02 00000000 00000000 02 0100490000 0B00010000 00 00" (prints "vaddpd k1, word ptr [ecx]{1to4}") ∷
    body both "00AF 40 04 01 00000000 00000000 02 0100490000 0B00010000 00 00" (prints "vaddpd k1, byte ptr [ecx]{1to8}") ∷
    body both "00AF 40 04 01 FFFFFFFF 00000000 02 0300000000 0B00010000 00 00" (prints "vaddpd 0FFFFFFFFh, byte ptr [ecx]{1to1}") ∷
    body both "00AF 40 04 02 00000005 00000000 02 0300000000 0B00010000 00 00" (prints "vaddpd 5, word ptr [ecx]{1to0}") ∷
    body both "00AF 40 04 01 FFFFFFFF 00000000 02 0400000000 0B00010000 00 00" (prints "vaddpd 0FFFFFFFFh, byte ptr [ecx]{1to2}") ∷
    body both "00AF 40 04 02 00000005 00000000 02 0400000000 0B00010000 00 00" (prints "vaddpd 5, word ptr [ecx]{1to1}") ∷
    body both "00AF 40 04 01 FFFFFFFF 00000000 02 0500000000 0B00010000 00 00" (prints "vaddpd 0FFFFFFFFh, byte ptr [ecx]{1to4}") ∷
    body both "00AF 40 04 02 00000005 00000000 02 0500000000 0B00010000 00 00" (prints "vaddpd 5, word ptr [ecx]{1to2}") ∷
    body both "00AF 40 04 01 FFFFFFFF 00000000 02 0600000000 0B00010000 00 00" (prints "vaddpd 0FFh, byte ptr [ecx]{1to1}") ∷
    body both "00AF 40 04 02 00000005 00000000 02 0600000000 0B00010000 00 00" (prints "vaddpd 5, word ptr [ecx]{1to0}") ∷
    body both "00AF 40 04 01 FFFFFFFF 00000000 02 0700000000 0B00010000 00 00" (prints "vaddpd 0FFFFh, byte ptr [ecx]{1to2}") ∷
    body both "00AF 40 04 02 00000005 00000000 02 0700000000 0B00010000 00 00" (prints "vaddpd 5, word ptr [ecx]{1to1}") ∷
    body both "00AF 40 04 01 FFFFFFFF 00000000 02 0800000000 0B00010000 00 00" (prints "vaddpd 0FFFFFFFFh, byte ptr [ecx]{1to4}") ∷
    body both "00AF 40 04 02 00000005 00000000 02 0800000000 0B00010000 00 00" (prints "vaddpd 5, word ptr [ecx]{1to2}") ∷
    -- {1toN} by widths: rounded down; 0 after memory; sizes without a label
    body both "00AF 40 04 04 00000000 00000000 02 0100200000 0B00010000 00 00" (prints "vaddpd st(0), dword ptr [ecx]{1to2}") ∷
    body both "00AF 40 04 10 00000000 00000000 02 0100200000 0B00010000 00 00" (prints "vaddpd st(0), xmmword ptr [ecx]{1to0}") ∷
    body both "00AF 40 04 30 00000000 00000000 02 0100400000 0B00010000 00 00" (prints "vaddpd zmm0, [ecx]{1to1}") ∷
    body both "00AF 40 04 3F 00000000 00000000 02 0100400000 0B00010000 00 00" (prints "vaddpd zmm0, [ecx]{1to1}") ∷
    body both "00AF 40 04 3F 00000000 00000000 02 0100380000 0B00010000 00 00" (prints "vaddpd ymm0, [ecx]{1to0}") ∷
    body both "00AF 40 04 40 00000000 00000000 02 0100400000 0B00010000 00 00" (prints "vaddpd zmm0, zmmword ptr [ecx]{1to1}") ∷
    body both "00AF 40 04 04 00000000 00000000 02 0100400000 0B00010000 00 00" (prints "vaddpd zmm0, dword ptr [ecx]{1to16}") ∷
    body both "00AF 40 04 08 00000000 00000000 02 0B00010000 0B00020000 00 00" (prints "vaddpd qword ptr [ecx], qword ptr [edx]{1to0}") ∷
    body both "00AF 40 04 08 00000000 00000000 03 0100300000 110001000049 0B00020000 00 00" (prints "vaddpd xmm0, mmword ptr [ecx]{k1}{1to2}, mmword ptr [edx]{1to0}") ∷
    -- {1toN}: after bracket and mask of each memory operand after operand 0, of every kind
    body both "00AF 40 04 08 00000000 00000004 02 0100400000 0900000000 00 00" (prints "vaddpd zmm0, qword ptr [0004h]{1to8}") ∷
    body both "00AF 40 04 08 00000000 00000004 02 0100400000 0A00000000 00 00" (prints "vaddpd zmm0, qword ptr [00000004h]{1to8}") ∷
    body both "00AF 40 04 08 00000000 00000004 02 0100400000 0B00030000 00 00" (prints "vaddpd zmm0, qword ptr [ebx]{1to8}") ∷
    body both "00AF 40 04 08 00000000 00000004 02 0100400000 11050300004A 03 00" (prints "vaddpd zmm0, qword ptr fs:[ebx]{k2}{1to8}") ∷
    body both "00AF 40 04 08 00000000 00000004 02 0100400000 0C00030000 00 00" (prints "vaddpd zmm0, qword ptr [ebx + 4]{1to8}") ∷
    body both "00AF 40 04 08 00000000 00000004 02 0100400000 12050300004B 03 00" (prints "vaddpd zmm0, qword ptr fs:[ebx + 4]{k3}{1to8}") ∷
    body both "00AF 40 04 08 00000000 00000004 02 0100400000 0D00060002 00 00" (prints "vaddpd zmm0, qword ptr [esi * 2]{1to8}") ∷
    body both "00AF 40 04 08 00000000 00000004 02 0100400000 13050600024C 03 00" (prints "vaddpd zmm0, qword ptr fs:[esi * 2]{k4}{1to8}") ∷
    body both "00AF 40 04 08 00000000 00000004 02 0100400000 0E00060002 00 00" (prints "vaddpd zmm0, qword ptr [esi * 2 + 4]{1to8}") ∷
    body both "00AF 40 04 08 00000000 00000004 02 0100400000 14050600024D 03 00" (prints "vaddpd zmm0, qword ptr fs:[esi * 2 + 4]{k5}{1to8}") ∷
    body both "00AF 40 04 08 00000000 00000004 02 0100400000 0F00030604 00 00" (prints "vaddpd zmm0, qword ptr [ebx + esi * 4]{1to8}") ∷
    body both "00AF 40 04 08 00000000 00000004 02 0100400000 15050306044E 03 00" (prints "vaddpd zmm0, qword ptr fs:[ebx + esi * 4]{k6}{1to8}") ∷
    body both "00AF 40 04 08 00000000 00000004 02 0100400000 1000030604 00 00" (prints "vaddpd zmm0, qword ptr [ebx + esi * 4 + 4]{1to8}") ∷
    body both "00AF 40 04 08 00000000 00000004 02 0100400000 16050306044F 03 00" (prints "vaddpd zmm0, qword ptr fs:[ebx + esi * 4 + 4]{k7}{1to8}") ∷
    body both "00AF 40 04 01 00000000 00000000 01 0B00000000 00 00" (prints "vaddpd byte ptr [eax]") ∷
    body both "00AF 40 04 01 00000000 00000000 02 0B00000000 0100400000 00 00" (prints "vaddpd byte ptr [eax], zmm0") ∷
    body both "00AF 40 04 01 00000000 00000000 04 0100400000 0100300000 0B00000000 0100480000 00 00" (prints "vaddpd zmm0, xmm0, byte ptr [eax]{1to16}, k0") ∷
    body both "00AF 40 04 02 00000000 00000000 04 0100400000 0100300000 0100380000 0A00000000 00 00" (prints "vaddpd zmm0, xmm0, ymm0, word ptr [00000000h]{1to16}") ∷
    body both "00AF 40 04 04 00000000 00000000 04 0100300000 0B00000000 0100380000 0C00000000 00 00" (prints "vaddpd xmm0, dword ptr [eax]{1to4}, ymm0, dword ptr [eax + 0]{1to8}") ∷
    body both "00AF 40 04 08 00000000 00000000 04 110000000049 11000000004A 11000000004B 11000000004C 00 00" (prints "vaddpd qword ptr [eax]{k1}, qword ptr [eax]{k2}{1to0}, qword ptr [eax]{k3}{1to0}, qword ptr [eax]{k4}{1to0}") ∷
    -- {1toN}: whatever the opcode, in the general path
    body both "0017 40 04 08 00000000 00000000 02 0100400000 110001000049 00 00" (prints "mov zmm0, qword ptr [ecx]{k1}{1to8}") ∷
    body both "0000 40 04 04 00000000 00000000 02 0100400000 110001000049 00 00" (prints "jmp zmm0, dword ptr [ecx]{k1}{1to16}") ∷
    body both "0036 40 04 06 00000000 00000000 02 0100400000 110001000049 00 00" (prints "lds zmm0, fword ptr [ecx]{k1}{1to10}") ∷
    body both "003C 40 04 01 00000000 00000000 02 0B00070000 110406000049 00 00" (prints "movs byte ptr [edi], byte ptr [esi]{k1}{1to0}") ∷
    body both "0032 40 04 08 00000000 00000000 02 0100000000 110001000049 00 00" (prints "cvtsd2si eax, mmword ptr [ecx]{k1}{1to0}") ∷
    body both "0035 40 04 08 00000001 00000000 03 0100300000 110001000049 0600000000 00 00" (prints "pinsrq xmm0, qword ptr [ecx]{k1}{1to2}, 1") ∷
    body both "0041 40 04 04 00000000 00000000 02 0100400000 110001000049 00 00" (prints "lsl zmm0, dword ptr [ecx]{k1}{1to16}") ∷
    body both "005E 40 04 02 00000000 00000000 02 0100000000 110001000049 00 00" (prints "incsspd eax, word ptr [ecx]{k1}{1to2}") ∷
    body both "0060 40 04 04 00000000 00000000 03 110001000049 0100000000 11000100004A 00 00" (prints "wrussd dword ptr [ecx]{k1}, eax, dword ptr [ecx]{k2}{1to1}") ∷
    body both "0067 40 04 04 00000000 00000000 02 0100380000 110001000049 00 00" (prints "aam ymm0, dword ptr [ecx]{k1}{1to8}") ∷
    body both "0027 40 04 30 00000000 00000000 02 0100380000 110001000049 00 00" (prints "fxsave ymm0, [ecx]{k1}{1to0}") ∷
    -- Tails: none, `{sae}`, and the four rounding words by the length bits
    body both "00AF 00 04 00 00000000 00000000 03 0100400000 0200410000 0200420000 00 00" (prints "vaddpd zmm0, zmm1, zmm2") ∷
    body both "00AF 00 04 00 00000000 00000000 03 0100400000 0200410000 0200420000 00 01" (prints "vaddpd zmm0, zmm1, zmm2 {sae}") ∷
    body both "00AF 00 04 00 00000000 00000000 03 0100400000 0200410000 0200420000 00 02" (prints "vaddpd zmm0, zmm1, zmm2 {rn-sae}") ∷
    body both "00AF 00 04 00 00000000 00000000 03 0100400000 0200410000 0200420000 01 00" (prints "vaddpd zmm0, zmm1, zmm2") ∷
    body both "00AF 00 04 00 00000000 00000000 03 0100400000 0200410000 0200420000 01 01" (prints "vaddpd zmm0, zmm1, zmm2 {sae}") ∷
    body both "00AF 00 04 00 00000000 00000000 03 0100400000 0200410000 0200420000 01 02" (prints "vaddpd zmm0, zmm1, zmm2 {rd-sae}") ∷
    body both "00AF 00 04 00 00000000 00000000 03 0100400000 0200410000 0200420000 02 00" (prints "vaddpd zmm0, zmm1, zmm2") ∷
    body both "00AF 00 04 00 00000000 00000000 03 0100400000 0200410000 0200420000 02 01" (prints "vaddpd zmm0, zmm1, zmm2 {sae}") ∷
    body both "00AF 00 04 00 00000000 00000000 03 0100400000 0200410000 0200420000 02 02" (prints "vaddpd zmm0, zmm1, zmm2 {ru-sae}") ∷
    body both "00AF 00 04 00 00000000 00000000 03 0100400000 0200410000 0200420000 03 00" (prints "vaddpd zmm0, zmm1, zmm2") ∷
    body both "00AF 00 04 00 00000000 00000000 03 0100400000 0200410000 0200420000 03 01" (prints "vaddpd zmm0, zmm1, zmm2 {sae}") ∷
    body both "00AF 00 04 00 00000000 00000000 03 0100400000 0200410000 0200420000 03 02" (prints "vaddpd zmm0, zmm1, zmm2 {rz-sae}") ∷
    -- Tails: after any general path with an operand, whatever the operands; none without an operand
    body both "00AF 00 04 08 00000005 00000000 00 00 01" (prints "vaddpd") ∷
    body both "00AF 40 04 08 00000005 00000000 00 02 02" (prints "vaddpd") ∷
    body both "009E 00 04 08 00000005 00000000 00 00 01" (prints "vcvtpd2ps") ∷
    body both "009E 40 04 08 00000005 00000000 00 02 02" (prints "vcvtpd2ps") ∷
    body both "00AF 00 04 08 00000005 00000000 01 0600000000 00 01" (prints "vaddpd 5 {sae}") ∷
    body both "00AF 40 04 08 00000005 00000000 01 0600000000 02 02" (prints "vaddpd 5 {ru-sae}") ∷
    body both "00AE 00 04 08 00000005 00000000 01 0B00000000 00 01" (prints "vcvtps2qq qword ptr [eax] {sae}") ∷
    body both "00AE 40 04 08 00000005 00000000 01 0B00000000 02 02" (prints "vcvtps2qq qword ptr [eax] {ru-sae}") ∷
    body both "00A4 00 04 08 00000005 00000000 02 0100400000 0B00000000 00 01" (prints "vcvtdq2pd zmm0, qword ptr [eax] {sae}") ∷
    body both "00A4 40 04 08 00000005 00000000 02 0100400000 0B00000000 02 02" (prints "vcvtdq2pd zmm0, qword ptr [eax]{1to8} {ru-sae}") ∷
    body both "0017 00 04 08 00000005 00000000 01 110000000049 00 01" (prints "mov qword ptr [eax]{k1} {sae}") ∷
    body both "0017 40 04 08 00000005 00000000 01 110000000049 02 02" (prints "mov qword ptr [eax]{k1} {ru-sae}") ∷
    body both "0000 00 04 08 00000005 00000000 02 0600000000 110000000049 00 01" (prints "jmp 5, qword ptr [eax]{k1} {sae}") ∷
    body both "0000 40 04 08 00000005 00000000 02 0600000000 110000000049 02 02" (prints "jmp 5, qword ptr [eax]{k1}{1to0} {ru-sae}") ∷
    body both "0016 00 04 08 00000005 00000000 02 0300000000 110000000049 00 01" (prints "xbegin 5, qword ptr [eax]{k1} {sae}") ∷
    body both "0016 40 04 08 00000005 00000000 02 0300000000 110000000049 02 02" (prints "xbegin 5, qword ptr [eax]{k1}{1to0} {ru-sae}") ∷
    body both "0050 00 04 08 00000005 00000000 01 110000000049 00 01" (prints "nop qword ptr [eax]{k1} {sae}") ∷
    body both "0050 40 04 08 00000005 00000000 01 110000000049 02 02" (prints "nop qword ptr [eax]{k1} {ru-sae}") ∷
    body both "0068 00 04 08 00000005 00000000 01 110000000049 00 01" (prints "aad qword ptr [eax]{k1} {sae}") ∷
    body both "0068 40 04 08 00000005 00000000 01 110000000049 02 02" (prints "aad qword ptr [eax]{k1} {ru-sae}") ∷
    body both "0041 00 04 08 00000005 00000000 02 0100400000 110000000049 00 01" (prints "lsl zmm0, qword ptr [eax]{k1} {sae}") ∷
    body both "0041 40 04 08 00000005 00000000 02 0100400000 110000000049 02 02" (prints "lsl zmm0, qword ptr [eax]{k1}{1to8} {ru-sae}") ∷
    body both "005E 00 04 08 00000005 00000000 02 0100000000 110000000049 00 01" (prints "incsspd eax, qword ptr [eax]{k1} {sae}") ∷
    body both "005E 40 04 08 00000005 00000000 02 0100000000 110000000049 02 02" (prints "incsspd eax, qword ptr [eax]{k1}{1to0} {ru-sae}") ∷
    -- The longest line
    body both "00A8 47 04 10 00000000 80000000 04 160500010849 160500010849 160500010849 160500010849 02 02" (prints "xacquire xrelease lock vcvtneps2bf16 xmmword ptr fs:[eax + ecx * 8 - 80000000h]{k1}, xmmword ptr fs:[eax + ecx * 8 - 80000000h]{k1}{1to16}, xmmword ptr fs:[eax + ecx * 8 - 80000000h]{k1}{1to16}, xmmword ptr fs:[eax + ecx * 8 - 80000000h]{k1}{1to16} {ru-sae}") ∷
    []
