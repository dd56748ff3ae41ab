-- Build tags: the systems and architectures that file names may carry, and the tags that a platform satisfies.
-- Public source: "Build constraints" of Go's package go/build.
-- In crate go_tags, the functions of src/tags.rt compute these.
use Rattle.std.specs.Prelude.{ℕ, Bool, false, ◌||◌, ◌&&◌, List, [], ◌∷◌, codes, bytes_eq}
use Rattle.go_model.specs.declared.files.platform.Platform.{Platform}
use Rattle.go_model.specs.files.Platforms.{system_of, architecture_of}

-- the word is one of these
abbrev pub is_one_of : List (List ℕ) → List ℕ → Bool
is_one_of [] word = false
is_one_of (w ∷ ws) word = bytes_eq word w || is_one_of ws word

-- the systems that file names may carry
unfoldable pub known_systems : List (List ℕ)
known_systems =
    codes "aix" ∷ codes "android" ∷ codes "darwin" ∷ codes "dragonfly" ∷ codes "freebsd" ∷ codes "hurd"
    ∷ codes "illumos" ∷ codes "ios" ∷ codes "js" ∷ codes "linux" ∷ codes "nacl" ∷ codes "netbsd"
    ∷ codes "openbsd" ∷ codes "plan9" ∷ codes "solaris" ∷ codes "wasip1" ∷ codes "windows" ∷ codes "zos" ∷ []

-- the architectures that file names may carry
unfoldable pub known_architectures : List (List ℕ)
known_architectures =
    codes "386" ∷ codes "amd64" ∷ codes "amd64p32" ∷ codes "arm" ∷ codes "armbe" ∷ codes "arm64"
    ∷ codes "arm64be" ∷ codes "loong64" ∷ codes "mips" ∷ codes "mipsle" ∷ codes "mips64" ∷ codes "mips64le"
    ∷ codes "mips64p32" ∷ codes "mips64p32le" ∷ codes "ppc" ∷ codes "ppc64" ∷ codes "ppc64le" ∷ codes "riscv"
    ∷ codes "riscv64" ∷ codes "s390" ∷ codes "s390x" ∷ codes "sparc" ∷ codes "sparc64" ∷ codes "wasm" ∷ []

-- the systems on which the tag unix is satisfied
unfoldable pub unix_systems : List (List ℕ)
unix_systems =
    codes "aix" ∷ codes "android" ∷ codes "darwin" ∷ codes "dragonfly" ∷ codes "freebsd" ∷ codes "hurd"
    ∷ codes "illumos" ∷ codes "ios" ∷ codes "linux" ∷ codes "netbsd" ∷ codes "openbsd" ∷ codes "solaris" ∷ []

-- the tags of the language versions up to Go 1.21
unfoldable pub release_tags : List (List ℕ)
release_tags =
    codes "go1.1" ∷ codes "go1.2" ∷ codes "go1.3" ∷ codes "go1.4" ∷ codes "go1.5" ∷ codes "go1.6" ∷ codes "go1.7"
    ∷ codes "go1.8" ∷ codes "go1.9" ∷ codes "go1.10" ∷ codes "go1.11" ∷ codes "go1.12" ∷ codes "go1.13" ∷ codes "go1.14"
    ∷ codes "go1.15" ∷ codes "go1.16" ∷ codes "go1.17" ∷ codes "go1.18" ∷ codes "go1.19" ∷ codes "go1.20" ∷ codes "go1.21" ∷ []

-- the tag is satisfied on every platform of this system: its own name, the system that it builds on, and unix
unfoldable pub is_system_tag : List ℕ → List ℕ → Bool
is_system_tag system tag =
    bytes_eq tag system
    || (bytes_eq tag (codes "linux") && bytes_eq system (codes "android"))
    || (bytes_eq tag (codes "solaris") && bytes_eq system (codes "illumos"))
    || (bytes_eq tag (codes "darwin") && bytes_eq system (codes "ios"))
    || (bytes_eq tag (codes "unix") && is_one_of unix_systems system)

-- the platform satisfies the tag
unfoldable pub is_satisfied : Platform → List ℕ → Bool
is_satisfied platform tag =
    is_system_tag (system_of platform) tag
    || bytes_eq tag (architecture_of platform)
    || bytes_eq tag (codes "gc")
    || is_one_of release_tags tag
