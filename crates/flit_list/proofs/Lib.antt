mod AlongRows
mod Parts
mod Telling
