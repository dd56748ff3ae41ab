mod Admitted
mod KeptTypes
mod Lists
mod Orders
mod Paths
mod Shapes
