-- The platforms: names of systems and architectures, and the sizes of `int`.
-- Public source: Go's `go tool dist list`; Go specification, "Numeric types", which leaves the sizes to the architecture.
use Rattle.std.specs.Prelude.{ℕ, List, ◌++◌, codes}
use Rattle.go_model.specs.declared.files.platform.Platform.{Platform}
use Rattle.go_model.specs.declared.files.platform.Platform.TheVariants as p

-- the system, as a build tag names it
abbrev pub system_of : Platform → List ℕ
system_of p.Linux386 = codes "linux"
system_of p.LinuxArm = codes "linux"
system_of p.Windows386 = codes "windows"
system_of p.LinuxAmd64 = codes "linux"
system_of p.LinuxArm64 = codes "linux"
system_of p.LinuxRiscv64 = codes "linux"
system_of p.LinuxS390x = codes "linux"
system_of p.AndroidArm64 = codes "android"
system_of p.DarwinAmd64 = codes "darwin"
system_of p.DarwinArm64 = codes "darwin"
system_of p.IosArm64 = codes "ios"
system_of p.FreebsdAmd64 = codes "freebsd"
system_of p.IllumosAmd64 = codes "illumos"
system_of p.WindowsAmd64 = codes "windows"

-- the architecture, as a build tag names it
abbrev pub architecture_of : Platform → List ℕ
architecture_of p.Linux386 = codes "386"
architecture_of p.LinuxArm = codes "arm"
architecture_of p.Windows386 = codes "386"
architecture_of p.LinuxAmd64 = codes "amd64"
architecture_of p.LinuxArm64 = codes "arm64"
architecture_of p.LinuxRiscv64 = codes "riscv64"
architecture_of p.LinuxS390x = codes "s390x"
architecture_of p.AndroidArm64 = codes "arm64"
architecture_of p.DarwinAmd64 = codes "amd64"
architecture_of p.DarwinArm64 = codes "arm64"
architecture_of p.IosArm64 = codes "arm64"
architecture_of p.FreebsdAmd64 = codes "amd64"
architecture_of p.IllumosAmd64 = codes "amd64"
architecture_of p.WindowsAmd64 = codes "amd64"

-- the platform's name: its system, a hyphen and its architecture
abbrev pub name_of : Platform → List ℕ
name_of platform = system_of platform ++ codes "-" ++ architecture_of platform

-- the bits of int, uint and uintptr
abbrev pub bits_of : Platform → ℕ
bits_of p.Linux386 = 32
bits_of p.LinuxArm = 32
bits_of p.Windows386 = 32
bits_of p.LinuxAmd64 = 64
bits_of p.LinuxArm64 = 64
bits_of p.LinuxRiscv64 = 64
bits_of p.LinuxS390x = 64
bits_of p.AndroidArm64 = 64
bits_of p.DarwinAmd64 = 64
bits_of p.DarwinArm64 = 64
bits_of p.IosArm64 = 64
bits_of p.FreebsdAmd64 = 64
bits_of p.IllumosAmd64 = 64
bits_of p.WindowsAmd64 = 64
